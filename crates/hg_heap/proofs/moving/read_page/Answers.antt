use Rattle.std.specs.Prelude.{◌≡◌, ◌<◌, ◌==◌, ℕ, List, Some, not, if◌then◌else◌}
use Rattle.std.proofs.Common.{◌∙◌, sym, ap, subst, refl, inl, inr}
use Rattle.std.proofs.lemmas.Bool.{false≢true}
use Rattle.std.proofs.lemmas.Option.{none-some}
use Rattle.hg_reloc.specs.Blocks.{frame}
use Rattle.hg_reloc.specs.Checks.{IsRight, IsWrong}
use Rattle.hg_reloc.specs.Moves.{entry}
use Rattle.hg_reloc.specs.Standing.{FitsPage}
use Rattle.hg_heap.proofs.Mapping.{read-frame}
use Rattle.hg_heap.proofs.moving.read_page.Goals as goal

pub returns-in-Err-clause-err : goal.returns-in-Err-clause-err
returns-in-Err-clause-err c =
    let page : List ℕ = c.args.page.now in (
      c.temp_page.ensures,
      inl (
        subst (λ n. IsWrong page n c.in-Err.check) c.max-max.ensures ((c.in-Err.ensures.wrong c.in-Err.check).0 refl),
        λ a roots os f fit. false≢true (c.in-Err.ensures.stands a roots os f (subst (λ n. FitsPage n a roots os f page) (sym c.max-max.ensures) fit)),
      ),
    )

pub returns-in-Some-clause-err : goal.returns-in-Some-clause-err
returns-in-Some-clause-err c =
    let page : List ℕ = c.args.page.now in
    let v : c.get_u32.result ≡ frame page = c.get_u32.ensures.value ∙ read-frame page in (
      c.temp_page-in-Some.ensures,
      inr (refl, λ e. none-some c.in-Some.field-0.0 (sym e ∙ ap (entry c.args.map.now.entries) (sym v) ∙ c.in-Some.ensures)),
    )

pub set-requires-clause-old_below : goal.set-requires-clause-old_below
set-requires-clause-old_below c =
    let page : List ℕ = c.args.page.now in
    let v : c.get_u32.result ≡ frame page = c.get_u32.ensures.value ∙ read-frame page in
    let r : IsRight page c.args.map.now.max = subst (IsRight page) c.max-max.ensures (c.in-Ok.ensures.right.0 refl) in
    subst (λ n. n < c.args.map.now.max) (sym v) r.below

pub returns-clause-ok : goal.returns-clause-ok
returns-clause-ok c =
    let page : List ℕ = c.args.page.now in
    let v : c.get_u32.result ≡ frame page = c.get_u32.ensures.value ∙ read-frame page in
    record {
      right = subst (IsRight page) c.max-max.ensures (c.in-Ok.ensures.right.0 refl);
      new_one = ap (entry c.args.map.now.entries) (sym v) ∙ c.in-None.ensures;
      entries = λ g. c.set.ensures.entry g ∙ ap (λ n. if n == g then Some c.args.now_in.0 else entry c.args.map.now.entries g) v;
      leads = c.set.ensures.leads;
      max = c.set.ensures.max;
    }

pub returns-clause-moved : goal.returns-clause-moved
returns-clause-moved c =
    let page : List ℕ = c.args.page.now in
    let v : c.get_u32.result ≡ frame page = c.get_u32.ensures.value ∙ read-frame page in
    ap (λ n. not (n == c.args.now_in.0)) v
