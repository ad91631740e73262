use Rattle.date_times.proofs.MinuteTexts.{tag_stands}
use Rattle.date_times.proofs.writing.put_instant.Goals as goal

pub put_minute-requires-clause-tag : goal.put_minute-requires-clause-tag
put_minute-requires-clause-tag c = tag_stands c.args.text.now _ c.requires
