-- The causes for which a bound statement or a change is refused, each with its code. Our own rule.
use Rattle.std.specs.Prelude.{ℕ, List, [], ◌∷◌, Option, Some, None}
use Rattle.hg_model.specs.declared.trees.ColRef.{ColRef}
use Rattle.hg_model.specs.declared.trees.Count.{Count}

pub data Refusal : Type 0 where
  UnknownTable : List ℕ → Refusal
  UnknownColumn : ColRef → Refusal
  AmbiguousColumn : ColRef → Refusal
  TypeMismatch : Refusal
  TooWide : Refusal
  NameTaken : List ℕ → Refusal
  TooMany : Count → Refusal
  NotGrouped : Refusal
  DoesNotFit : List ℕ → Refusal
  NullNotAllowed : List ℕ → Refusal
  DuplicateKey : Refusal
  BadNumber : Refusal
  RowTooLong : Refusal
  StampsUsedUp : Refusal
  KeyTooLong : Refusal

abbrev pub code_of : Refusal → ℕ
code_of (UnknownTable t) = 3
code_of (UnknownColumn c) = 4
code_of (AmbiguousColumn c) = 5
code_of TypeMismatch = 6
code_of TooWide = 7
code_of (NameTaken t) = 8
code_of (TooMany k) = 9
code_of NotGrouped = 10
code_of (DoesNotFit c) = 11
code_of (NullNotAllowed c) = 12
code_of DuplicateKey = 13
code_of BadNumber = 22
code_of RowTooLong = 23
code_of StampsUsedUp = 24
code_of KeyTooLong = 25

-- the first cause of a list of them
unfoldable pub first_cause : List (Option Refusal) → Option Refusal
first_cause [] = None
first_cause (None ∷ more) = first_cause more
first_cause (Some r ∷ more) = Some r
