-- What waits for the sink, what went there, and what the reply lines among it say. Our own rule.
use Rattle.std.specs.Prelude.{◌≡◌, ℕ, ◌≤◌, ◌+◌, List, ◌++◌, ◌||◌, length, Option}
use Rattle.hg_io.specs.Bytes.{then}
use Rattle.hg_machine.specs.Plain.Replies.{ReplyLine, text_of, has_error}
use Rattle.hg_reply.specs.Steps.{DeviceFacts, Counted}
use Rattle.hg_serve.specs.declared.output.Output.{Output}

-- a front of the bytes was written
pub record WritesFront (old new : Option (List ℕ)) (bytes : List ℕ) : Type 0 where
  pub front : List ℕ
  pub rest : List ℕ
  pub parts : bytes ≡ front ++ rest
  pub written : new ≡ then old front

-- the text was put behind the bytes that wait, and a front of all went to the sink
pub record Passes (written_before written_after : Option (List ℕ)) (waiting_before waiting_after text : List ℕ) : Type 0 where
  pub passed : List ℕ
  pub parts : waiting_before ++ text ≡ passed ++ waiting_after
  pub written : written_after ≡ then written_before passed

-- a front of the bytes that wait and the text behind them went to the sink, and then it failed
pub record Breaks (written_before written_after : Option (List ℕ)) (waiting text : List ℕ) : Type 0 where
  pub front : List ℕ
  pub rest : List ℕ
  pub parts : waiting ++ text ≡ front ++ rest
  pub written : written_after ≡ then written_before front

-- the outside of a session at one moment: the bytes written, the devices' counts of faults, and how many
-- bytes the engine's replies had so far
pub record Moment : Type 0 where
  pub written : Option (List ℕ)
  pub faults : DeviceFacts
  pub said : ℕ

abbrev pub moment : Option (List ℕ) → DeviceFacts → ℕ → Moment
moment written faults said = record { written = written; faults = faults; said = said }

-- these reply lines were put behind the others, and a front of all went to the sink
pub record Tells (old new : Moment) (before after : Output) (replies : List ReplyLine) : Type 0 where
  pub passes : Passes old.written new.written before.bytes.items after.bytes.items (text_of replies)
  pub errors : after.errors ≡ (before.errors || has_error replies)
  pub counted : Counted old.faults new.faults replies
  -- the engine said no more than these lines
  pub said : new.said ≤ old.said + length (text_of replies)

-- a front of what waited and of these reply lines went to the sink, and then it failed
pub record TellsInPart (old new : Moment) (waiting : List ℕ) (replies : List ReplyLine) : Type 0 where
  pub breaks : Breaks old.written new.written waiting (text_of replies)
  pub counted : Counted old.faults new.faults replies

-- A front of what waited and of what the engine said went to the sink, and then it failed; of what the
-- engine said at most what waits at most and one reply were not written.
pub record Stops (old new : Moment) (waiting : List ℕ) : Type 0 where
  pub front : List ℕ
  pub written : new.written ≡ then old.written front
  pub few : new.said + length waiting ≤ old.said + length front + 49152
