-- The members of a group that were read are names.
use Rattle.std.proofs.Common.{◌≡◌, ℕ, Bool, true, false, List, ◌∷◌, ◌++◌, Ok, refl, sym, ap, ◌∙◌, subst, append_assoc, append-nil, []}
use Rattle.std.specs.List.{AllByRecursion}
use Rattle.crm_lex.specs.Names.{is_name}
use Rattle.crm_parse.specs.Groups.{ends_members, members_from}
use Rattle.crm_parse.specs.Reading.{Words, name_of}
use Rattle.crm_parse.proofs.Binds.{name_of-ok}
use Rattle.faults.proofs.Steps.{bind-ok}

-- a member of a group: a name that begins nothing else
pub record IsMember (word : List ℕ) : Type 0 where
  pub goes_on : ends_members word ≡ false
  pub named : is_name word ≡ true

-- the members that were read, and the words behind them
pub record Read (before words after rest : Words) : Type 0 where
  pub members : Words
  pub added : after ≡ before ++ members
  pub whole : words ≡ members ++ rest
  pub each : AllByRecursion IsMember members

members-more : (before after rest : Words) (word name : List ℕ) (words : Words) → name ≡ word → IsMember word → Read (before ++ name ∷ []) words after rest
    → Read before (word ∷ words) after rest
members-more before after rest word name words s m r = record {
  members = word ∷ r.members;
  added = r.added ∙ (append_assoc before (name ∷ []) r.members ∙ ap (λ w. before ++ w ∷ r.members) s);
  whole = ap (λ ws. word ∷ ws) r.whole;
  each = (m, r.each);
}

members-case : (before : Words) (word : List ℕ) (words : Words) (read : Words × Words) (ends : Bool) → ends_members word ≡ ends
    → ((name : List ℕ) → members_from (before ++ name ∷ []) words ≡ Ok read → Read (before ++ name ∷ []) words read.0 read.1)
    → members_from before (word ∷ words) ≡ Ok read → Read before (word ∷ words) read.0 read.1
members-case before word words read true t more e =
    let done : Ok (before, word ∷ words) ≡ Ok read = rw t at e in
    let same : (before, word ∷ words) ≡ read = cc in
    let none : Read before (word ∷ words) before (word ∷ words) = record { members = []; added = sym (append-nil before); whole = refl; each = tt } in
    subst (λ (r : Words × Words). Read before (word ∷ words) r.0 r.1) same none
members-case before word words read false t more e =
    let step = rw t at e in
    let (name, is_one, rest) = bind-ok (name_of word) (λ (name : List ℕ). members_from (before ++ name ∷ []) words) read step in
    let (same, good) = name_of-ok word name is_one in
    members-more before read.0 read.1 word name words same (record { goes_on = t; named = good }) (more name rest)

pub members_from-read : (before words : Words) (read : Words × Words) → members_from before words ≡ Ok read → Read before words read.0 read.1
members_from-read before [] read e =
    let same : (before, []) ≡ read = cc in
    let none : Read before [] before [] = record { members = []; added = sym (append-nil before); whole = refl; each = tt } in
    subst (λ (r : Words × Words). Read before [] r.0 r.1) same none
members_from-read before (word ∷ words) read e =
    members-case before word words read (ends_members word) refl (λ name h. members_from-read (before ++ name ∷ []) words read h) e

-- the members end here
abbrev pub EndsMembers : Words → Type 0
EndsMembers rest = (before : Words) → members_from before rest ≡ Ok (before, rest)

pub members-again : (before members rest : Words) → AllByRecursion IsMember members → EndsMembers rest → members_from before (members ++ rest) ≡ Ok (before ++ members, rest)
members-again before [] rest m h = h before ∙ ap (λ (ws : Words). Ok (ws, rest)) (sym (append-nil before))
members-again before (word ∷ members) rest m h =
    let more = members-again (before ++ word ∷ []) members rest m.1 h in
    let same = append_assoc before (word ∷ []) members in
    rw (m.0.goes_on, m.0.named) (more ∙ ap (λ (ws : Words). Ok (ws, rest)) same)
