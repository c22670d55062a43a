-- Over devices that do not tell, the machine's own runs are among those that may come.
use Rattle.std.proofs.Common.{◌≡◌, Bool, List, [], ◌∷◌, refl}
use Rattle.hg_machine.specs.Plain.Laws.{RunsAreLooseRuns}
use Rattle.hg_machine.specs.Plain.Loose.{Loosely, with_any_rows, loosely}
use Rattle.hg_machine.specs.Plain.Replies.{ReplyLine}
use Rattle.hg_machine.specs.Plain.Run.{Manner, exactly, GivesTurns, Finishes, RunsLine, RunsLines}
use Rattle.hg_machine.specs.Plain.State.{State}
use Rattle.hg_model.specs.Script.{Line}
use Rattle.hg_model.specs.Statements.{CommandTree}

pub turns_are_loose : (m : Manner) (old new : State) (turns : List (List ReplyLine)) → GivesTurns m old turns new → GivesTurns (loosely m) old turns new
unfolding GivesTurns
turns_are_loose m old new [] given = given
turns_are_loose m old new (turn ∷ turns) given = (given.0, with_any_rows old refl given.1, turns_are_loose m given.0 new turns given.2)

line_is_loose : (m : Manner) (old new : State) (line : Line) (lines : List ReplyLine) → RunsLine m old line lines new → RunsLine (loosely m) old line lines new
line_is_loose m old new line lines runs = record {
  between = runs.between;
  first = runs.first;
  others = runs.others;
  begins = with_any_rows old refl runs.begins;
  finishes = record {
    turns = runs.finishes.turns;
    between = runs.finishes.between;
    last = runs.finishes.last;
    given = turns_are_loose m runs.between runs.finishes.between runs.finishes.turns runs.finishes.given;
    close = with_any_rows runs.finishes.between refl runs.finishes.close;
    joined = runs.finishes.joined;
  };
  joined = runs.joined;
}

lines_are_loose : (m : Manner) (old new : State) (script : List Line) (lines : List ReplyLine) → RunsLines m old script lines new → RunsLines (loosely m) old script lines new
unfolding RunsLines
lines_are_loose m old new [] lines runs = runs
lines_are_loose m old new (line ∷ script) lines runs =
    (runs.0, runs.1, runs.2, line_is_loose m old runs.2 line runs.0 runs.3, lines_are_loose m runs.2 new script runs.1 runs.4, runs.5)

pub runs_are_loose_runs : RunsAreLooseRuns
runs_are_loose_runs built old new script lines runs = lines_are_loose (exactly built) old new script lines runs
