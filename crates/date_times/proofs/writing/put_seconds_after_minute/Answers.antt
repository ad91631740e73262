use Rattle.std.proofs.Common.{arith, ◌∙◌, ◌+◌, ◌++◌, ◌∷◌, [], ◌≡◌, sym, ap, take}
use Rattle.std.proofs.lemmas.Grind.{common_steps}
use Rattle.std.proofs.lemmas.List.{take-take}
use Rattle.spec_words.specs.Bytes.{line_feed}
use Rattle.date_times.specs.Times.{time_tag, time_text_at}
use Rattle.date_times.proofs.MinuteTexts.{time_after_tag, begins_as, line_after_tag}
use Rattle.date_times.proofs.writing.put_seconds_after_minute.Goals as goal

-- the text up to its `Z`
timed : (c : goal.After-put_date_mark-3) → take (c.put_second_decimals-end.result + 1) c.put_date_mark-2.new.text ≡ time_tag ++ time_text_at c.args.nanos
timed c = grind (arith, common_steps, time_after_tag)

pub returns-clause-text : goal.returns-clause-text
returns-clause-text c =
    let end = c.put_second_decimals-end.result + 1 in
    begins_as end end (end + 1) c.put_date_mark-2.new.text c.put_date_mark-3.new.text (line_feed ∷ []) c.put_date_mark-3.ensures (omega arith) (omega arith) (omega arith) ∙ timed c

pub returns-clause-line : goal.returns-clause-line
returns-clause-line c =
    line_after_tag time_tag (time_text_at c.args.nanos) (line_feed ∷ []) c.put_date_mark-2.new.text c.put_date_mark-3.new.text (c.put_second_decimals-end.result + 1) (timed c) c.put_date_mark-3.ensures

pub returns-clause-minute : goal.returns-clause-minute
returns-clause-minute c =
    let end = c.put_second_decimals-end.result in
    let zoned = c.put_date_mark-2.new.text in let whole = c.put_second_decimals-end.new.text in let pointed = c.put_date_mark.new.text in let second = c.put_two_date_digits.new.text in
    begins_as 42 (end + 1) (end + 1 + 1) zoned c.put_date_mark-3.new.text _ c.put_date_mark-3.ensures (omega arith) (omega arith) (omega arith)
    ∙ (begins_as 42 end (end + 1) whole zoned _ c.put_date_mark-2.ensures (omega arith) (omega arith) (omega arith)
    ∙ (begins_as 42 45 end pointed whole _ c.put_second_decimals-end.ensures.text (omega arith) (omega arith) (omega arith)
    ∙ (begins_as 42 44 45 second pointed _ c.put_date_mark.ensures (omega arith) (omega arith) (omega arith)
    ∙ begins_as 42 42 44 c.args.text.now second _ c.put_two_date_digits.ensures (omega arith) (omega arith) (omega arith))))
