use Rattle.std.proofs.Common.{◌≡◌, subst, sym, refl}
use Rattle.std.specs.Prelude.{Ok}
use Rattle.std.specs.declared.alloc.AllocError.{AllocError}
use Rattle.channel_api.specs.declared.named.Naming.{Naming}
use Rattle.channel_api.specs.declared.named.Naming.TheVariants as naming
use Rattle.channel_api.specs.Named.{PutsNamed}
use Rattle.http_edge.specs.Edges.{AreGiven}
use Rattle.http_edge.proofs.Turns.{is_taken, is_full, is_added}
use Rattle.http_edge.proofs.channels.Channels.add.Goals as goal
use Rattle.http_edge.proofs.channels.Channels.add.Goals.{in-Done, in-Taken, in-Full}

pub returns : goal.returns
returns c table s =
    let name = c.args.name.now in
    let channel = c.args.channel in
    let before = c.self.inside.by_name.entries in
    let after = c.put_named.new.values.entries in
    let seen = subst (λ k. AreGiven k table) (sym c.self.view_is) s in
    let put_as : (n : Naming) → c.in_ok-put_named.field-0 ≡ n → PutsNamed {E = AllocError} 64 name channel before (Ok n) after =
    λ n e. subst (λ m. PutsNamed {E = AllocError} 64 name channel before (Ok m) after) e c.in_ok-put_named.ensures in
    elim c.match-branch-2.branch [
      | in-Done w ↦
          rw w.result-is
          (is_added table name channel.base channel.tolerance before after channel seen AllocError w.bare.result (put_as naming.Done w.in-Done.is)
          (record { base = refl; tolerance = refl; stands = c.requires }) w.bare.ensures)
      | in-Taken w ↦ rw w.result-is (is_taken table name channel.base channel.tolerance before after channel seen w.reply_line.result (put_as naming.Taken w.in-Taken.is) w.reply_line.ensures)
      | in-Full w ↦
          rw w.result-is (is_full table name channel.base channel.tolerance before after channel seen {E = AllocError} (Ok w.bare-in-Full.result) (put_as naming.Full w.in-Full.is) w.bare-in-Full.ensures)
    ]
