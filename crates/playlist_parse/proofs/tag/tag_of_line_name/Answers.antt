use Rattle.std.proofs.Common.{refl, arith}
use Rattle.std.proofs.lemmas.Grind.{common_steps}
use Rattle.playlist_parse.proofs.TagNames.{unnamed, flagged}
use Rattle.playlist_parse.proofs.tag.tag_of_line_name.Goals as goal

pub returns-in-EXTINF : goal.returns-in-EXTINF
returns-in-EXTINF c = rw c.in-EXTINF.is refl

pub returns-in-text : goal.returns-in-text
returns-in-text c = rw c.in-text.is refl

pub returns-in-text-3 : goal.returns-in-text-3
returns-in-text-3 c = rw c.in-text-3.is refl

pub returns-in-text-4 : goal.returns-in-text-4
returns-in-text-4 c = rw c.in-text-4.is refl

pub returns-in-text-5 : goal.returns-in-text-5
returns-in-text-5 c = rw c.in-text-5.is refl

pub returns-in-text-6 : goal.returns-in-text-6
returns-in-text-6 c = rw c.in-text-6.is refl

pub returns-in-text-7 : goal.returns-in-text-7
returns-in-text-7 c = rw c.in-text-7.is refl

pub returns-in-text-8 : goal.returns-in-text-8
returns-in-text-8 c = rw c.in-text-8.is refl

pub returns-in-text-9 : goal.returns-in-text-9
returns-in-text-9 c = rw c.in-text-9.is refl

pub returns-in-text-10 : goal.returns-in-text-10
returns-in-text-10 c = rw c.in-text-10.is refl

pub returns-in-text-11 : goal.returns-in-text-11
returns-in-text-11 c = rw c.in-text-11.is refl

pub returns-in-text-15 : goal.returns-in-text-15
returns-in-text-15 c = rw c.in-text-15.is refl

pub returns-in-text-16 : goal.returns-in-text-16
returns-in-text-16 c = rw c.in-text-16.is refl

pub returns-in-text-17 : goal.returns-in-text-17
returns-in-text-17 c = rw c.in-text-17.is refl

pub returns-in-text-18 : goal.returns-in-text-18
returns-in-text-18 c = rw c.in-text-18.is refl

pub returns-in-text-19 : goal.returns-in-text-19
returns-in-text-19 c = rw c.in-text-19.is refl

pub returns-in-text-2 : goal.returns-in-text-2
returns-in-text-2 c = grind (arith, common_steps, flagged)

pub returns-in-text-12 : goal.returns-in-text-12
returns-in-text-12 c = grind (arith, common_steps, flagged)

pub returns-in-text-13 : goal.returns-in-text-13
returns-in-text-13 c = grind (arith, common_steps, flagged)

pub returns-in-text-14 : goal.returns-in-text-14
returns-in-text-14 c = grind (arith, common_steps, flagged)

pub returns-in_default : goal.returns-in_default
returns-in_default c = grind (arith, common_steps, unnamed)
