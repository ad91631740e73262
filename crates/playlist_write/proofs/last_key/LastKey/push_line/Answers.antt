use Rattle.std.proofs.Common.{◌≡◌, [], ◌∷◌, ◌++◌, arith}
use Rattle.std.specs.Prelude.{codes, string_bytes}
use Rattle.std.proofs.lemmas.Grind.{common_steps}
use Rattle.date_times.specs.Digits.{fixed_digits}
use Rattle.date_times.proofs.Chains.{grown2}
use Rattle.playlist_write.proofs.OnlyKey.{front_known, line_with_front}
use Rattle.playlist_write.proofs.Taken.{ok_with}
use Rattle.playlist_write.proofs.last_key.LastKey.push_line.Goals as goal

pub returns-in-Some-iv-clause-text : goal.returns-in-Some-iv-clause-text
returns-in-Some-iv-clause-text c =
    let has = front_known string_bytes c.self.inside.key c.self.inside.iv c.self.inside.front c.in-Some.front c.args.key.now c.args.self.now c.self.view_is c.requires.key c.in-Some.is c.self.invariant in
    let middle : string_bytes c.push_str.new.self ≡ string_bytes c.args.out.now ++ string_bytes c.in-Some.front = grind (arith, common_steps) in
    ok_with c.write_line_feed.result _ _
    (λ fed. line_with_front c.args.key.now (string_bytes c.in-Some.front) (string_bytes c.args.out.now) (string_bytes c.push_str.new.self) (string_bytes c.write_line_feed.new.out) c.args.iv c.in-Some-iv.iv c.requires.vector c.in-Some-iv.is has middle
    (grown2 (string_bytes c.push_str.new.self) (codes "\",IV=0x" ++ fixed_digits 16 32 c.in-Some-iv.iv) (10 ∷ []) c.in_ok-write_quote_and_iv.ensures fed))
    c.write_line_feed.ensures
