-- What is lent to be written, as it is defined (rule of this project).
use Rattle.account_text.specs.declared.lent_parts.OriginRef.{OriginRef}
use Rattle.account_text.specs.declared.lent_parts.OriginRef.TheVariants as lent
use Rattle.account_text.specs.declared.lent_parts.PartRef.{PartRef}
use Rattle.account_text.specs.declared.lent_parts.VerdictRef.{VerdictRef}
use Rattle.account_text.specs.declared.lent_parts.VerdictRef.TheVariants as given
use Rattle.decision_account.specs.Parts.{Origin, ScorePart, from_ban, from_colocation, from_location, from_opt_in, from_promotion, from_stickiness, part_of}
use Rattle.decision_account.specs.Verdicts.{Verdict, beside, below, capped, chosen, forbidden, fuller, later, less, unplaced, unusable, without}

abbrev pub lent_origin : OriginRef → Origin
lent_origin (lent.Location id) = from_location id.now
lent_origin lent.Stickiness = from_stickiness
lent_origin lent.Ban = from_ban
lent_origin lent.OptIn = from_opt_in
lent_origin lent.Promotion = from_promotion
lent_origin (lent.Colocation id) = from_colocation id.now

abbrev pub lent_part : PartRef → ScorePart
lent_part part = part_of part.lender (lent_origin part.origin) part.score

abbrev pub lent_verdict : VerdictRef → Verdict
lent_verdict given.Chosen = chosen
lent_verdict given.Unusable = unusable
lent_verdict given.Forbidden = forbidden
lent_verdict given.Below = below
lent_verdict (given.Without col) = without col.now
lent_verdict (given.Beside col) = beside col.now
lent_verdict given.Unplaced = unplaced
lent_verdict given.Capped = capped
lent_verdict (given.Less m) = less m
lent_verdict (given.Fuller m) = fuller m
lent_verdict (given.Later m) = later m
