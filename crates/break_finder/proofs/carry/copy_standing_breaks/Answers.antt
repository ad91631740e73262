use Rattle.std.proofs.Common.{ap, ◌∙◌, ◌||◌, ℕ, List, map, filter}
use Rattle.std.specs.Option.{option_copied}
use Rattle.break_finder.specs.declared.described.Described.{Described}
use Rattle.break_finder.specs.Kept.{break_at}
use Rattle.break_finder.specs.Inner.Kept.{is_kept_with}
use Rattle.break_finder.specs.Known.{is_tagged_or_carried, is_this_break}
use Rattle.break_finder.specs.Inner.Known.{break_stands}
use Rattle.break_finder.proofs.KeptLaws.{filtered, cloned}
use Rattle.break_finder.proofs.TagIds.{filter_same}
use Rattle.break_finder.proofs.carry.copy_standing_breaks.Goals as goal

pub returns-clause-standing : goal.returns-clause-standing
returns-clause-standing c =
    let date_ranges = c.args.date_ranges.now in
    let carried = option_copied c.args.carried in
    let es = c.in_ok-kept.kept.entries in
    let same = filter_same (is_kept_with c.in_ok-ids.ids carried) (λ (e : List ℕ × Described). is_tagged_or_carried date_ranges carried e.0)
    (λ e. ap (λ b. b || is_this_break e.0 carried) (c.in_ok-ids.ensures e.0)) es in
    ap (map break_at) (c.keep_standing_breaks.ensures.standing ∙ same) ∙ filtered date_ranges carried es
    ∙ ap (filter (break_stands date_ranges carried)) (cloned c.args.breaks.now.entries es c.in_ok-kept.ensures.cases)
