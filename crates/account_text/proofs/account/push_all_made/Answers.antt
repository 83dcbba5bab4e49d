use Rattle.std.proofs.Common.{rules}
use Rattle.cluster_types.specs.Tables.{targets_of}
use Rattle.account_text.proofs.WholeTexts.{accounted_more}
use Rattle.account_text.proofs.account.push_all_made.Goals as goal

pub loop-made-preserved : goal.loop-made-preserved
loop-made-preserved c =
    let l = c.loop-made in
    let after = c.in_ok-loaded.loaded in
    record {
      loaded = c.in_ok-loaded.ensures.loaded;
      text = λ es ps tell.
          accounted_more c.args.read.now.known.cluster.now es ps (targets_of c.args.loaded.table) c.args.decided.now l.made-index c.made-item.result
          c.args.text.now.items l.text.items c.push_made.new.text.items (targets_of l.loaded.table) (targets_of after.table) c.loop-made-test.true
          (search rules) (l.invariant.text es ps tell) (c.in_ok-loaded.ensures.text es ps tell);
    }
