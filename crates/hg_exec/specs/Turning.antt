-- What a look and a turn of loops promise. Our own rule.
use Rattle.std.specs.Prelude.{◌≡◌, ℕ, zero, suc, ◌+◌, ◌*◌, Bool, List, [], ◌∷◌, length, IsTrue, Option, None, Some, MatchOption, ⊤}
use Rattle.std.specs.List.{list_any}
use Rattle.hg_base.specs.Lines.{has_page}
use Rattle.hg_base.specs.Space.{Space}
use Rattle.hg_base.specs.declared.Check.{Check}
use Rattle.hg_base.specs.declared.Check.TheVariants.{Kind, Size, Frame, Link, Level, Order, RowBytes}
use Rattle.hg_base.specs.declared.Table.{Table}
use Rattle.hg_base.specs.declared.pages.PageFault.{PageFault}
use Rattle.hg_base.specs.declared.pages.PageFault.TheVariants as fault
use Rattle.hg_catalog.specs.Contents.{CatalogTable}
use Rattle.hg_model.specs.declared.trees.Column.{Column}
use Rattle.hg_model.specs.declared.values.Value.{Value}
use Rattle.hg_table.specs.Calls.{main_page}
use Rattle.hg_exec.specs.Joins.{Form, output_of}
use Rattle.hg_exec.specs.Standing.{HasLeft, Owes}
use Rattle.hg_exec.specs.declared.loops.Loops.{Loops}
use Rattle.hg_exec.specs.declared.loops.Step.{Step}
use Rattle.hg_exec.specs.declared.loops.Step.TheVariants as step
use Rattle.hg_exec.specs.declared.loops.Turn.{Turn}
use Rattle.hg_exec.specs.declared.loops.Turn.TheVariants as turn
use Rattle.hg_exec.specs.declared.plan.OpenLoop.{OpenLoop}
use Rattle.hg_plan.specs.declared.plan.TableLoop.{TableLoop}

-- a look at a loop found its next row, and the loop stands behind it
pub record Finds (s : Space) (committed : ℕ → Bool) (snapshot : ℕ) (t : Table) (columns : List Column) (pages : List ℕ) (left : List (List Value)) (row : List Value) (o : OpenLoop) : Type 0 where
  pub rest : List (List Value)
  pub is : left ≡ row ∷ rest
  pub stands : HasLeft s committed snapshot t columns pages o.at o.budget rest

-- What may be wrong with a page of a table that is read: it is no slotted page, or a record on it is no version
-- of a row of the table. Order says that a budget was used up.
abbrev pub IsLoopCheck : Check → Type 0
IsLoopCheck Kind = ⊤
IsLoopCheck Size = ⊤
IsLoopCheck Frame = ⊥
IsLoopCheck Link = ⊥
IsLoopCheck Level = ⊥
IsLoopCheck Order = ⊤
IsLoopCheck RowBytes = ⊤

-- a damaged page is one of the tables of these loops
abbrev pub NamesRead : (ℕ → List ℕ) → List TableLoop → PageFault → Type 0
NamesRead pages loops fault.MainFault = ⊤
NamesRead pages loops fault.TempFault = ⊤
NamesRead pages loops fault.MainFull = ⊤
NamesRead pages loops fault.TempFull = ⊤
NamesRead pages loops (fault.Damaged page check) =
    (page ≡ main_page page.no) × IsTrue (list_any (λ (l : TableLoop). has_page (pages l.table) page.no) loops)

-- ---- how many looks are left

-- how many looks one row of a loop is worth that has so many loops inside, where none gives more rows than this
abbrev pub worth : ℕ → ℕ → ℕ
worth most zero = 1
worth most (suc n) = suc most * worth most n

abbrev pub looks_from : ℕ → List TableLoop → List OpenLoop → ℕ
looks_from most ls [] = 0
looks_from most [] (o ∷ os) = 0
looks_from most (l ∷ ls) (o ∷ os) = o.budget * worth most (length ls) + looks_from most ls os

-- at most so many looks are left, over every space
abbrev pub looks_left : List TableLoop → Loops → ℕ
looks_left loops x = looks_from x.most loops x.opened.items

-- ---- one look, and one turn

-- after a look the loops owe what they owed, or all but the output of the joined row
abbrev pub Stepped : Space → List Bool → List CatalogTable → (ℕ → List ℕ) → Form → List TableLoop → Loops → List (List Value) → Step → Type 0
Stepped s marks tables pages f loops x left step.Again = Owes s marks tables pages f loops x left
Stepped s marks tables pages f loops x left step.Row =
    (rest : List (List Value)) × (left ≡ output_of f x.joined ∷ rest) × Owes s marks tables pages f loops x rest
Stepped s marks tables pages f loops x left step.End = left ≡ []
Stepped s marks tables pages f loops x left (step.Fault e) = ⊤

-- A turn takes the first row that is owed, or none is owed.
abbrev pub Turned : Space → List Bool → List CatalogTable → (ℕ → List ℕ) → Form → List TableLoop → Loops → List Value → List (List Value) → Turn → Type 0
Turned s marks tables pages f loops x out left turn.Row =
    (rest : List (List Value)) × (left ≡ out ∷ rest) × Owes s marks tables pages f loops x rest
Turned s marks tables pages f loops x out left turn.End = left ≡ []
Turned s marks tables pages f loops x out left (turn.Fault e) = ⊤

abbrev pub IfRow : Turn → Type 0 → Type 0
IfRow turn.Row P = P
IfRow turn.End P = ⊤
IfRow (turn.Fault e) P = ⊤

abbrev pub IfFault : Turn → (PageFault → Type 0) → Type 0
IfFault turn.Row P = ⊤
IfFault turn.End P = ⊤
IfFault (turn.Fault e) P = P e

abbrev pub fault_in : Turn → Option PageFault
fault_in turn.Row = None
fault_in turn.End = None
fault_in (turn.Fault e) = Some e

-- the same of a look
abbrev pub IfGoesOn : Step → Type 0 → Type 0
IfGoesOn step.Again P = P
IfGoesOn step.Row P = P
IfGoesOn step.End P = ⊤
IfGoesOn (step.Fault e) P = ⊤

abbrev pub IfWhole : Step → Type 0 → Type 0
IfWhole step.Again P = ⊤
IfWhole step.Row P = P
IfWhole step.End P = ⊤
IfWhole (step.Fault e) P = ⊤

abbrev pub IfStepFault : Step → (PageFault → Type 0) → Type 0
IfStepFault step.Again P = ⊤
IfStepFault step.Row P = ⊤
IfStepFault step.End P = ⊤
IfStepFault (step.Fault e) P = P e

abbrev pub fault_of_step : Step → Option PageFault
fault_of_step step.Again = None
fault_of_step step.Row = None
fault_of_step step.End = None
fault_of_step (step.Fault e) = Some e
