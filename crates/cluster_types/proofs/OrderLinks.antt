-- The links of an order are what it puts first, and those of a leaf the turns of its own steps.
use Rattle.std.proofs.Common.{◌≡◌, ◌≢◌, ◌↔◌, inl, inr, ◌&&◌, if◌then◌else◌, ℕ, Bool, true, false, List, [], ◌∷◌, Contains, refl, subst}
use Rattle.std.specs.List.{flat_map}
use Rattle.std.specs.Prelude.{map}
use Rattle.lemmas.proofs.Members.{at_head, head_or_rest, in_flat, in_map, in_none, in_rest, of_flat, of_map}
use Rattle.cluster_types.specs.declared.leaf.Op.{Op}
use Rattle.cluster_types.specs.declared.leaf.Op.TheVariants as op
use Rattle.cluster_types.specs.declared.rules.Order.{Order}
use Rattle.cluster_types.specs.Numbers.{Link, inverse_links, leaf_links, link, order_links}
use Rattle.cluster_types.specs.Precedence.{inverse, is_giving, is_serialize, takers}
use Rattle.cluster_types.specs.Precedes.{ComesFirstOnCell, demote_stop, start_promote, change_monitor, PutsFirst, forth, back, turned}
use Rattle.cluster_types.proofs.Few.{of_one, of_two}

module _ (o : Order) where
  abbrev own : Link
  own = link o.first_op o.first o.then_op o.then_leaf

  abbrev inverted : Link
  inverted = link (inverse o.then_op) o.then_leaf (inverse o.first_op) o.first

  abbrev taken : List Link
  taken = flat_map (λ p. map (λ q. link p o.then_leaf q o.first) (takers o.first_op)) (takers o.then_op)

  abbrev Puts : Link → Type 0
  Puts l = PutsFirst o l.before.what l.before.leaf l.after.what l.after.leaf

  -- From each link what is put first.

  of_taken : (l : Link) → o.symmetrical ≡ true → is_giving o.first_op && is_giving o.then_op ≡ true → Contains taken l → Puts l
  of_taken l symmetrical up h =
      let f = of_flat (λ p. map (λ q. link p o.then_leaf q o.first) (takers o.first_op)) (takers o.then_op) l h in
      let m = of_map (λ q. link f.source o.then_leaf q o.first) (takers o.first_op) l f.gives in
      subst Puts m.gives (back f.source m.source symmetrical up f.among m.among)

  of_inverse : (b : Bool) (l : Link) → o.symmetrical ≡ true → is_giving o.first_op && is_giving o.then_op ≡ b
      → Contains (if b then taken else inverted ∷ []) l → Puts l
  of_inverse true l symmetrical up h = of_taken l symmetrical up h
  of_inverse false l symmetrical up h = of_one Puts inverted l (turned symmetrical up) h

  of_symmetrical : (b : Bool) (l : Link) → o.symmetrical ≡ b → Contains (if b then inverse_links o else []) l → Puts l
  of_symmetrical true l symmetrical h = of_inverse (is_giving o.first_op && is_giving o.then_op) l symmetrical refl h
  of_symmetrical false l symmetrical h = absurd (in_none l h)

  of_kind : (b : Bool) (l : Link) → Contains (if b then [] else own ∷ (if o.symmetrical then inverse_links o else [])) l → Puts l
  of_kind true l h = absurd (in_none l h)
  of_kind false l h = elim (head_or_rest own (if o.symmetrical then inverse_links o else []) l h) [
    | inl e ↦ subst Puts e forth
    | inr t ↦ of_symmetrical o.symmetrical l refl t
  ]

  pub of_link : (l : Link) → Contains (order_links o) l → Puts l
  of_link l h = of_kind (is_serialize o.kind) l h

  -- From what is put first its link.

  own_on : (b : Bool) (rest : List Link) → b ≡ false → Contains (if b then [] else own ∷ rest) own
  own_on true rest e = cc
  own_on false rest e = at_head own rest own refl

  inverse_on : (b d : Bool) (l : Link) → b ≡ false → d ≡ true → Contains (inverse_links o) l → Contains (if b then [] else own ∷ (if d then inverse_links o else [])) l
  inverse_on true d l e f k = cc
  inverse_on false true l e f k = in_rest own (inverse_links o) l k
  inverse_on false false l e f k = cc

  taken_on : (b : Bool) (l : Link) → b ≡ true → Contains taken l → Contains (if b then taken else inverted ∷ []) l
  taken_on true l e k = k
  taken_on false l e k = cc

  inverted_on : (b : Bool) → b ≡ false → Contains (if b then taken else inverted ∷ []) inverted
  inverted_on true e = cc
  inverted_on false e = at_head inverted [] inverted refl

  pub link_of : (p q : Op) (r s : ℕ) → is_serialize o.kind ≡ false → PutsFirst o p r q s → Contains (order_links o) (link p r q s)
  link_of _ _ _ _ kind forth = own_on (is_serialize o.kind) (if o.symmetrical then inverse_links o else []) kind
  link_of _ _ _ _ kind (back p q symmetrical up inp inq) =
      inverse_on (is_serialize o.kind) o.symmetrical (link p o.then_leaf q o.first) kind symmetrical
      (taken_on (is_giving o.first_op && is_giving o.then_op) (link p o.then_leaf q o.first) up
      (in_flat (λ p. map (λ q. link p o.then_leaf q o.first) (takers o.first_op)) (takers o.then_op) p (link p o.then_leaf q o.first) inp
      (in_map (λ q. link p o.then_leaf q o.first) (takers o.first_op) q inq)))
  link_of _ _ _ _ kind (turned symmetrical up) =
      inverse_on (is_serialize o.kind) o.symmetrical inverted kind symmetrical (inverted_on (is_giving o.first_op && is_giving o.then_op) up)

  pub links_put_first : (p q : Op) (r s : ℕ) → is_serialize o.kind ≡ false → Contains (order_links o) (link p r q s) ↔ PutsFirst o p r q s
  links_put_first p q r s kind = (of_link (link p r q s), link_of p q r s kind)

pub none_of_serialize : (o : Order) → is_serialize o.kind ≡ true → order_links o ≡ []
none_of_serialize o kind = on (is_serialize o.kind) kind
  where
    on : (b : Bool) → b ≡ true → (if b then [] else own o ∷ (if o.symmetrical then inverse_links o else [])) ≡ []
    on true e = refl
    on false e = cc

-- on one leaf
abbrev Turns : Link → Type 0
Turns l = ComesFirstOnCell l.before.what l.after.what

link_of_turn : (r : ℕ) (o p : Op) → p ≢ op.Monitor → ComesFirstOnCell o p → Contains (leaf_links r) (link o r p r)
link_of_turn r _ _ changes demote_stop = at_head (link op.Demote r op.Stop r) (link op.Start r op.Promote r ∷ []) (link op.Demote r op.Stop r) refl
link_of_turn r _ _ changes start_promote =
    in_rest (link op.Demote r op.Stop r) (link op.Start r op.Promote r ∷ []) (link op.Start r op.Promote r)
    (at_head (link op.Start r op.Promote r) [] (link op.Start r op.Promote r) refl)
link_of_turn r _ _ changes (change_monitor o other) = absurd (changes refl)

pub links_take_turns : (r : ℕ) (o p : Op) → p ≢ op.Monitor → Contains (leaf_links r) (link o r p r) ↔ ComesFirstOnCell o p
links_take_turns r o p changes =
    (of_two Turns (link op.Demote r op.Stop r) (link op.Start r op.Promote r) (link o r p r) demote_stop start_promote, link_of_turn r o p changes)
