use Rattle.std.specs.Prelude.{⊤}
use Rattle.http_messages.specs.Replies.{reason_of}
use Rattle.httparse.proofs.OnLiterals.{httparse_on_literals}
use Rattle.matchit.proofs.OnLiterals.{matchit_on_literals}
use Rattle.worked_examples.proofs.OnLiterals.{on_literals as texts_on_literals}

-- what an answer unfolds to compute a definition on literals
unfoldable pub on_literals : ⊤
unfolding reason_of httparse_on_literals matchit_on_literals texts_on_literals
on_literals = tt
