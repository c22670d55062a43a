-- The words behind the code of a refusal.
use Rattle.std.specs.Prelude.{◌≡◌, ℕ, ◌≤◌, List, [], ◌∷◌, Option, Some, None, unwrap_or, option_map, slice_get, slice_index_or, false, length, ◌<◌}
use Rattle.std.proofs.Common.{sym, ◌∙◌, ap, subst, refl, arith}
use Rattle.std.proofs.lemmas.Option.{none-some, slice_get_within, slice_get-get_or}
use Rattle.hg_bind.specs.Bound.{error_of, name_written, kind_written}
use Rattle.hg_bind.specs.declared.errors.BindError.{BindError}
use Rattle.hg_machine.specs.Plain.Refused.{refusal_line, words_of, column_word}
use Rattle.hg_machine.specs.Plain.Replies.{error}
use Rattle.hg_model.specs.Refusal.{Refusal, code_of, UnknownTable, UnknownColumn, AmbiguousColumn, TypeMismatch, TooWide, NameTaken, TooMany, NotGrouped, DoesNotFit, NullNotAllowed, DuplicateKey, BadNumber, RowTooLong, StampsUsedUp, KeyTooLong}
use Rattle.hg_model.specs.declared.trees.ColRef.{ColRef}
use Rattle.hg_model.specs.declared.trees.Count.{Count}
use Rattle.hg_dml.specs.Rows.{Tells}
use Rattle.hg_model.specs.declared.trees.Column.{Column}
use Rattle.hg_model.specs.declared.trees.SqlType.TheVariants.{Integer}
use Rattle.hg_reply.specs.Plain.{kind_words}

one : {X : Type 0} (x y : X) → Some x ≡ Some y → x ≡ y
one x y e = ap (λ o. unwrap_or o x) e

pub known-code : (r : Refusal) → code_of r ≤ 25
known-code (UnknownTable t) = omega arith
known-code (UnknownColumn c) = omega arith
known-code (AmbiguousColumn c) = omega arith
known-code TypeMismatch = omega arith
known-code TooWide = omega arith
known-code (NameTaken n) = omega arith
known-code (TooMany k) = omega arith
known-code NotGrouped = omega arith
known-code (DoesNotFit n) = omega arith
known-code (NullNotAllowed n) = omega arith
known-code DuplicateKey = omega arith
known-code BadNumber = omega arith
known-code RowTooLong = omega arith
known-code StampsUsedUp = omega arith
known-code KeyTooLong = omega arith

by-name : (r : Refusal) (c : ColRef) → name_written r ≡ Some c → column_word c ∷ [] ≡ words_of r
by-name (UnknownTable t) c e = sym (ap (λ (x : ColRef). column_word x ∷ []) (one _ c e))
by-name (UnknownColumn d) c e = sym (ap (λ (x : ColRef). column_word x ∷ []) (one _ c e))
by-name (AmbiguousColumn d) c e = sym (ap (λ (x : ColRef). column_word x ∷ []) (one _ c e))
by-name TypeMismatch c e = absurd (none-some c e)
by-name TooWide c e = absurd (none-some c e)
by-name (NameTaken n) c e = sym (ap (λ (x : ColRef). column_word x ∷ []) (one _ c e))
by-name (TooMany k) c e = absurd (none-some c e)
by-name NotGrouped c e = absurd (none-some c e)
by-name (DoesNotFit n) c e = sym (ap (λ (x : ColRef). column_word x ∷ []) (one _ c e))
by-name (NullNotAllowed n) c e = sym (ap (λ (x : ColRef). column_word x ∷ []) (one _ c e))
by-name DuplicateKey c e = absurd (none-some c e)
by-name BadNumber c e = absurd (none-some c e)
by-name RowTooLong c e = absurd (none-some c e)
by-name StampsUsedUp c e = absurd (none-some c e)
by-name KeyTooLong c e = absurd (none-some c e)

by-kind : (r : Refusal) (k : Count) → kind_written r ≡ Some k → kind_words k ≡ words_of r
by-kind (UnknownTable t) k e = absurd (none-some k e)
by-kind (UnknownColumn c) k e = absurd (none-some k e)
by-kind (AmbiguousColumn c) k e = absurd (none-some k e)
by-kind TypeMismatch k e = absurd (none-some k e)
by-kind TooWide k e = absurd (none-some k e)
by-kind (NameTaken n) k e = absurd (none-some k e)
by-kind (TooMany j) k e = sym (ap kind_words (one j k e))
by-kind NotGrouped k e = absurd (none-some k e)
by-kind (DoesNotFit n) k e = absurd (none-some k e)
by-kind (NullNotAllowed n) k e = absurd (none-some k e)
by-kind DuplicateKey k e = absurd (none-some k e)
by-kind BadNumber k e = absurd (none-some k e)
by-kind RowTooLong k e = absurd (none-some k e)
by-kind StampsUsedUp k e = absurd (none-some k e)
by-kind KeyTooLong k e = absurd (none-some k e)

by-nothing : (r : Refusal) → name_written r ≡ None → kind_written r ≡ None → [] ≡ words_of r
by-nothing (UnknownTable t) e f = absurd (none-some _ (sym e))
by-nothing (UnknownColumn c) e f = absurd (none-some _ (sym e))
by-nothing (AmbiguousColumn c) e f = absurd (none-some _ (sym e))
by-nothing TypeMismatch e f = refl
by-nothing TooWide e f = refl
by-nothing (NameTaken n) e f = absurd (none-some _ (sym e))
by-nothing (TooMany k) e f = absurd (none-some k (sym f))
by-nothing NotGrouped e f = refl
by-nothing (DoesNotFit n) e f = absurd (none-some _ (sym e))
by-nothing (NullNotAllowed n) e f = absurd (none-some _ (sym e))
by-nothing DuplicateKey e f = refl
by-nothing BadNumber e f = refl
by-nothing RowTooLong e f = refl
by-nothing StampsUsedUp e f = refl
by-nothing KeyTooLong e f = refl

-- the line of a refusal, of the error that tells it
pub line-name : (r : Refusal) (e : BindError) (c : ColRef) → error_of r ≡ e → e.name ≡ Some c → error e.code (column_word c ∷ []) ≡ refusal_line r
line-name r e c is named = λ i. error (sym (ap (λ (x : BindError). x.code) is) i) (by-name r c (ap (λ (x : BindError). x.name) is ∙ named) i)

pub line-kind : (r : Refusal) (e : BindError) (k : Count) → error_of r ≡ e → e.kind ≡ Some k → error e.code (kind_words k) ≡ refusal_line r
line-kind r e k is kind = λ i. error (sym (ap (λ (x : BindError). x.code) is) i) (by-kind r k (ap (λ (x : BindError). x.kind) is ∙ kind) i)

pub line-nothing : (r : Refusal) (e : BindError) → error_of r ≡ e → e.name ≡ None → e.kind ≡ None → error e.code [] ≡ refusal_line r
line-nothing r e is none nothing = λ i. error (sym (ap (λ (x : BindError). x.code) is) i)
    (by-nothing r (ap (λ (x : BindError). x.name) is ∙ none) (ap (λ (x : BindError). x.kind) is ∙ nothing) i)

pub code-known : (e : BindError) → (r : Refusal) × (error_of r ≡ e) → e.code ≤ 25
code-known e told = subst (λ n. n ≤ 25) (ap (λ (x : BindError). x.code) told.1) (known-code told.0)

-- ---- the line of what stands against the rows of a change

pub told-nothing : (columns : List Column) (code : ℕ) (r : Refusal) → Tells columns code None r → error code [] ≡ refusal_line r
told-nothing columns code (UnknownTable t) h = absurd h
told-nothing columns code (UnknownColumn c) h = absurd h
told-nothing columns code (AmbiguousColumn c) h = absurd h
told-nothing columns code TypeMismatch h = absurd h
told-nothing columns code TooWide h = absurd h
told-nothing columns code (NameTaken n) h = absurd h
told-nothing columns code (TooMany j) h = absurd h
told-nothing columns code NotGrouped h = absurd h
told-nothing columns code (DoesNotFit n) h = absurd h.1
told-nothing columns code (NullNotAllowed n) h = absurd h.1
told-nothing columns code DuplicateKey h = ap (λ n. error n []) h.0
told-nothing columns code BadNumber h = absurd h
told-nothing columns code RowTooLong h = ap (λ n. error n []) h.0
told-nothing columns code StampsUsedUp h = absurd h
told-nothing columns code KeyTooLong h = absurd h

column-name : (o : Option Column) (c : Column) (name : List ℕ) → o ≡ Some c → option_map (λ (x : Column). x.name) o ≡ Some name → c.name ≡ name
column-name o c name is named = one c.name name (ap (option_map (λ (x : Column). x.name)) (sym is) ∙ named)

pub told-column : (columns : List Column) (code k : ℕ) (c : Column) (r : Refusal) → slice_get columns k ≡ Some c → Tells columns code (Some k) r
    → error code (c.name ∷ []) ≡ refusal_line r
told-column columns code k c (UnknownTable t) is h = absurd h
told-column columns code k c (UnknownColumn d) is h = absurd h
told-column columns code k c (AmbiguousColumn d) is h = absurd h
told-column columns code k c TypeMismatch is h = absurd h
told-column columns code k c TooWide is h = absurd h
told-column columns code k c (NameTaken n) is h = absurd h
told-column columns code k c (TooMany j) is h = absurd h
told-column columns code k c NotGrouped is h = absurd h
told-column columns code k c (DoesNotFit n) is h = λ i. error (h.0 i) (column-name (slice_get columns k) c n is h.1 i ∷ [])
told-column columns code k c (NullNotAllowed n) is h = λ i. error (h.0 i) (column-name (slice_get columns k) c n is h.1 i ∷ [])
told-column columns code k c DuplicateKey is h = absurd (none-some k (sym h.1))
told-column columns code k c BadNumber is h = absurd h
told-column columns code k c RowTooLong is h = absurd (none-some k (sym h.1))
told-column columns code k c StampsUsedUp is h = absurd h
told-column columns code k c KeyTooLong is h = absurd h

within : (columns : List Column) (k : ℕ) (o : Option Column) (name : List ℕ) → slice_get columns k ≡ o → option_map (λ (x : Column). x.name) o ≡ Some name → k < length columns
within columns k None name is h = absurd (none-some name h)
within columns k (Some c) name is h = slice_get_within columns k c is

pub told-within : (columns : List Column) (code k : ℕ) (r : Refusal) → Tells columns code (Some k) r → k < length columns
told-within columns code k (UnknownTable t) h = absurd h
told-within columns code k (UnknownColumn c) h = absurd h
told-within columns code k (AmbiguousColumn c) h = absurd h
told-within columns code k TypeMismatch h = absurd h
told-within columns code k TooWide h = absurd h
told-within columns code k (NameTaken n) h = absurd h
told-within columns code k (TooMany j) h = absurd h
told-within columns code k NotGrouped h = absurd h
told-within columns code k (DoesNotFit n) h = within columns k (slice_get columns k) n refl h.1
told-within columns code k (NullNotAllowed n) h = within columns k (slice_get columns k) n refl h.1
told-within columns code k DuplicateKey h = absurd (none-some k (sym h.1))
told-within columns code k BadNumber h = absurd h
told-within columns code k RowTooLong h = absurd (none-some k (sym h.1))
told-within columns code k StampsUsedUp h = absurd h
told-within columns code k KeyTooLong h = absurd h

pub told-known : (columns : List Column) (code : ℕ) (column : Option ℕ) (r : Refusal) → Tells columns code column r → code ≤ 25
told-known columns code column (UnknownTable t) h = absurd h
told-known columns code column (UnknownColumn c) h = absurd h
told-known columns code column (AmbiguousColumn c) h = absurd h
told-known columns code column TypeMismatch h = absurd h
told-known columns code column TooWide h = absurd h
told-known columns code column (NameTaken n) h = absurd h
told-known columns code column (TooMany j) h = absurd h
told-known columns code column NotGrouped h = absurd h
told-known columns code column (DoesNotFit n) h = let e = h.0 in omega (arith, e)
told-known columns code column (NullNotAllowed n) h = let e = h.0 in omega (arith, e)
told-known columns code column DuplicateKey h = let e = h.0 in omega (arith, e)
told-known columns code column BadNumber h = absurd h
told-known columns code column RowTooLong h = let e = h.0 in omega (arith, e)
told-known columns code column StampsUsedUp h = absurd h
told-known columns code column KeyTooLong h = absurd h

-- a code and a column's number tell one line
no_column : Column
no_column = record { name = []; ty = Integer; not_null = false }

pub told-same : (columns : List Column) (code : ℕ) (column : Option ℕ) (r q : Refusal) → Tells columns code column r → Tells columns code column q → refusal_line r ≡ refusal_line q
told-same columns code None r q h i = sym (told-nothing columns code r h) ∙ told-nothing columns code q i
told-same columns code (Some k) r q h i =
    let at = slice_get-get_or columns k no_column (told-within columns code k r h) in
    sym (told-column columns code k (slice_index_or columns k no_column) r at h) ∙ told-column columns code k (slice_index_or columns k no_column) q at i
