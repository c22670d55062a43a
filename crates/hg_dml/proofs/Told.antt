-- What the steps of an INSERT say becomes what the INSERT says.
use Rattle.std.specs.Prelude.{◌≡◌, ℕ, List, length, Option, Some, None, option_map, unwrap_or, slice_get}
use Rattle.std.proofs.Common.{sym, ◌∙◌, ap, subst, refl}
use Rattle.std.proofs.lemmas.Option.{none-some}
use Rattle.hg_base.specs.Causes.{HasCause}
use Rattle.hg_base.specs.Space.{Space}
use Rattle.hg_base.specs.declared.Table.{Table}
use Rattle.hg_base.specs.declared.pages.PageFault.{PageFault}
use Rattle.hg_catalog.specs.Contents.{Contents, CatalogTable}
use Rattle.hg_model.specs.declared.trees.Literal.{Literal}
use Rattle.hg_table.specs.Chains.{IsChain}
use Rattle.hg_dml.specs.Fitting.{AreReady}
use Rattle.hg_dml.specs.Inserting.{MovesEnds, PutsAll, PutsPart, IsCause, OnRefused}
use Rattle.hg_dml.specs.Putting.{Puts, PutsSome}
use Rattle.hg_dml.specs.Rows.{rows_cause, rows_of_tuples}
use Rattle.hg_dml.specs.Steps.{IsRefusal}
use Rattle.hg_dml.specs.Tuples.{sources_of, rows_from}
use Rattle.hg_dml.specs.declared.insertion.ChangeError.{ChangeError}
use Rattle.hg_dml.specs.declared.insertion.ChangeError.TheVariants as change
use Rattle.hg_dml.proofs.Sources.{rows-are}

some-one : {X : Type 0} (a b : X) → Some a ≡ Some b → a ≡ b
some-one {X} a b e = ap (λ (o : Option X). unwrap_or o a) e

-- an entry that is there
pub entry-of : {X Y : Type 0} (f : X → Y) (o : Option X) (y : Y) → option_map f o ≡ Some y → (x : X) × (o ≡ Some x) × (f x ≡ y)
entry-of f None y e = absurd (none-some y e)
entry-of f (Some x) y e = (x, refl, some-one (f x) y e)

pub entry-is : {X Y : Type 0} (f : X → Y) (o : Option X) (x : X) (y : Y) → option_map f o ≡ Some y → o ≡ Some x → f x ≡ y
entry-is f o x y e is = some-one (f x) y (sym (ap (option_map f) is) ∙ e)

module _ (texts targets : List ℕ) (values : List Literal) (ends : List ℕ) (sources : List (Option ℕ)) where
  same : (t : CatalogTable) → sources ≡ sources_of targets (length t.columns) → rows_from texts sources values ends ≡ rows_of_tuples texts t.columns targets values ends
  same t s = ap (λ ss. rows_from texts ss values ends) s ∙ rows-are texts t.columns targets values ends

  pub refused-told : (e : ChangeError) (tables : List CatalogTable) (n : ℕ)
      → ((t : CatalogTable) → slice_get tables n ≡ Some t → IsRefusal t.columns (rows_from texts sources values ends) e)
      → ((t : CatalogTable) → slice_get tables n ≡ Some t → sources ≡ sources_of targets (length t.columns))
      → OnRefused (λ code column. (t : CatalogTable) → slice_get tables n ≡ Some t → IsCause texts targets values ends code column t) e
  refused-told (change.Refused code column) tables n h s = λ t at.
      let r = h t at in
      record { refusal = r.0; first = subst (λ rs. rows_cause t.columns rs ≡ Some r.0) (same t (s t at)) r.1; told = r.2 }
  refused-told (change.Fault f) tables n h s = tt

  module _ (a b : Space) (old new : Contents) (table stamp : ℕ) (t : CatalogTable) (after : Table)
      (s : sources ≡ sources_of targets (length t.columns)) (ready : AreReady t.columns (rows_from texts sources values ends)) (moves : MovesEnds old new table after) where
    pub all-told : ((pages : List ℕ) → IsChain a t.pages pages → Puts a b t.pages after pages stamp t.columns (rows_from texts sources values ends))
        → HasCause a b None → PutsAll a b old new table stamp texts targets values ends t
    all-told puts cause = record {
      no_cause = subst (λ rs. rows_cause t.columns rs ≡ None) (same t s) ready.no_cause;
      after = after;
      moves = moves;
      puts = λ pages chain. subst (λ rs. Puts a b t.pages after pages stamp t.columns rs) (same t s) (puts pages chain);
      counts = cause.counts;
    }

    pub part-told : (f : PageFault) → ((pages : List ℕ) → IsChain a t.pages pages → PutsSome a b t.pages after pages stamp t.columns (rows_from texts sources values ends) f)
        → HasCause a b (Some f) → PutsPart a b old new table stamp texts targets values ends f t
    part-told f puts cause = record {
      no_cause = subst (λ rs. rows_cause t.columns rs ≡ None) (same t s) ready.no_cause;
      after = after;
      moves = moves;
      puts = λ pages chain. subst (λ rs. PutsSome a b t.pages after pages stamp t.columns rs f) (same t s) (puts pages chain);
      counts = cause.counts;
    }
