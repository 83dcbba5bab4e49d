use Rattle.std.proofs.Common.{◌≡◌, List, ℕ, ◌++◌, ap, ◌∙◌, append_assoc, rules}
use Rattle.cluster_types.specs.Texts.{run_text}
use Rattle.simulated.specs.WorldTexts.{ending, real_lines}
use Rattle.simulated.proofs.text.text_of.Goals as goal

joined : (all before text lines last front : List ℕ) → all ≡ before ++ last → before ≡ text ++ lines → text ≡ front → all ≡ front ++ (lines ++ last)
joined all before text lines last front push real run =
    push ∙ ap (λ xs. xs ++ last) real ∙ append_assoc text lines last ∙ ap (λ xs. xs ++ (lines ++ last)) run

pub returns : goal.returns
returns c journal number world lived shows =
    let made = c.args.lived.now in
    let end : c.extend_from_slice.new.self.items ≡ c.push_real_lines.new.text.items ++ ending made.over = search rules in
    record {
      run = made.run;
      over = made.over;
      world = world;
      lived = lived;
      printed =
          joined c.extend_from_slice.new.self.items c.push_real_lines.new.text.items c.in_ok-text.text.items (real_lines c.args.cluster.now world.cells) (ending made.over)
          (run_text c.args.cluster.now made.run) end (c.in_ok-push_real_lines.ensures world shows) c.in_ok-text.ensures;
    }
