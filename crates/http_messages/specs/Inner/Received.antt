-- What proofs and inner functions say with the definitions of `Received`.
use Rattle.http_messages.specs.Received.{IsHeadAt}
use Rattle.std.specs.Prelude.{◌≡◌, ℕ, ◌+◌, ◌≤◌, List, length, Some, None}
use Rattle.httparse.specs.Grammar.{HasNoRequest, MayBecomeRequest}
use Rattle.http_messages.specs.declared.head.Framing.TheVariants.{Body}
use Rattle.http_messages.specs.declared.head.HeadRead.{HeadRead}
use Rattle.http_messages.specs.declared.head.HeadRead.TheVariants.{Whole, Partial, Bad}
use Rattle.http_messages.specs.declared.receiving.Step.{Step}
use Rattle.http_messages.specs.declared.receiving.Step.TheVariants as step
use Rattle.http_messages.specs.Requests.{NeverHasHead, MayBecomeHead, IsRefusedFor, IsUnfinished}

-- ---- on the way

-- what some bytes are, of which a head may have all
abbrev pub IsReadAs : List ℕ → HeadRead → Type 0
IsReadAs bytes (Whole head) = IsHeadAt bytes head
IsReadAs bytes Partial = HasNoRequest bytes × MayBecomeRequest bytes
IsReadAs bytes Bad = NeverHasHead bytes

-- what some bytes are, of which a head may have a front
abbrev pub IsJudgedAs : List ℕ → HeadRead → Type 0
IsJudgedAs bytes (Whole head) = IsHeadAt bytes head
IsJudgedAs bytes Partial = HasNoRequest bytes × MayBecomeHead bytes
IsJudgedAs bytes Bad = NeverHasHead bytes

-- what is known after a look at the bytes
abbrev pub IsStep : List ℕ → Step → Type 0
IsStep bytes (step.Whole head count) = IsHeadAt bytes head × (head.framing ≡ Body count) × (head.len + count ≤ length bytes)
IsStep bytes (step.Refused refusal) = IsRefusedFor bytes refusal
IsStep bytes (step.More None) = IsUnfinished bytes
IsStep bytes (step.More (Some head)) = IsUnfinished bytes × IsHeadAt bytes head
