-- The table of a number, as the catalog gives it.
use Rattle.std.specs.Prelude.{◌≡◌, ℕ, zero, suc, List, [], ◌∷◌, Option, Some, None, unwrap_or, option_map, slice_get, Result, Ok, Err, IfOk, IfSome, MatchOption}
use Rattle.std.proofs.Common.{ap, refl, subst}
use Rattle.std.proofs.lemmas.Option.{none-some}
use Rattle.hg_base.specs.declared.Table.{Table}
use Rattle.hg_catalog.specs.Contents.{CatalogTable}
use Rattle.hg_model.specs.declared.trees.Column.{Column}
use Rattle.hg_exec.specs.Standing.{entry}

pub entry-pages : (tables : List CatalogTable) (t : ℕ) (d : Table) → option_map (λ (x : CatalogTable). x.pages) (slice_get tables t) ≡ Some d → (entry tables t).pages ≡ d
entry-pages [] t d e = absurd (none-some d e)
entry-pages (x ∷ tables) zero d e = ap (λ o. unwrap_or o d) e
entry-pages (x ∷ tables) (suc t) d e = entry-pages tables t d e

pub entry-columns : (tables : List CatalogTable) (t : ℕ) (cs : List Column) → option_map (λ (x : CatalogTable). x.columns) (slice_get tables t) ≡ Some cs → (entry tables t).columns ≡ cs
entry-columns [] t cs e = absurd (none-some cs e)
entry-columns (x ∷ tables) zero cs e = ap (λ o. unwrap_or o cs) e
entry-columns (x ∷ tables) (suc t) cs e = entry-columns tables t cs e

pub map-ok : {T E : Type 0} (P Q : T → Type 0) (r : Result T E) → ((x : T) → P x → Q x) → IfOk r P → IfOk r Q
map-ok P Q (Ok x) f h = f x h
map-ok P Q (Err e) f h = h

-- what is said of an option, where it is known
pub at-some : {X : Type 0} (o : Option X) (x : X) (A : Type 0) (P : X → Type 0) → o ≡ Some x → MatchOption o A P → P x
at-some {X} o x A P e m = subst (λ (y : Option X). MatchOption y A P) e m

pub at-none : {X : Type 0} (o : Option X) (A : Type 0) (P : X → Type 0) → o ≡ None → MatchOption o A P → A
at-none {X} o A P e m = subst (λ (y : Option X). MatchOption y A P) e m

pub given-some : {X : Type 0} (o : Option X) (x : X) (P : X → Type 0) → o ≡ Some x → IfSome o P → P x
given-some {X} o x P e m = subst (λ (y : Option X). IfSome y P) e m
