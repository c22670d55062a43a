use Rattle.std.proofs.Common.{◌≡◌, ◌∙◌, ap, sym, subst, refl, ℕ, List, Option, Some, option_and_then}
use borrow.Enum.Total.{values_d}
use Rattle.std.specs.contracts.option.Option.{enum as option-enum}
use Rattle.hg_base.specs.contracts.plain_heap.PlainHeap.{the_row as PlainHeap-row}
use Rattle.hg_base.specs.HeapContent.{payload_of, object_at}
use Rattle.hg_base.specs.HeapStates.{of_locked}
use Rattle.hg_base.specs.PlainChanges.{Found, found-locked, payload-locked, standing-found}
use Rattle.hg_base.specs.PlainObjects.{payload_under}
use Rattle.hg_base.specs.PlainLoans.{lent_by}
use Rattle.hg_base.specs.declared.plain_heap.PlainHeap.{PlainHeap}
use Rattle.hg_base.specs.declared.plain_parts.PlainParts.{PlainParts}
use Rattle.hg_base.proofs.plain_parts.PlainParts.payload_mut.Goals as goal

unread : (r : Option PlainHeap) (x : PlainHeap) (a : ℕ) (v : Option (List ℕ)) → r ≡ Some x → payload_under (values_d (option-enum PlainHeap-row) 1 (x, tt {0}) r).0.objects a ≡ v → payload_under x.objects a ≡ v
unread r x a v e p = subst (λ z. payload_under (values_d (option-enum PlainHeap-row) 1 (x, tt {0}) z).0.objects a ≡ v) e p

pub returns : goal.returns
returns c =
    let s : PlainParts = c.args.self.now in
    let h : ℕ = c.args.h.0 in
    let x : PlainHeap = c.in-Some.heap in
    let f : Found s h x = found-locked s h c.index_mut.result.now x (payload-locked s h c.args.a.word c.requires.row) c.index_mut.ensures.value c.in-Some.is in
    rw c.in-Some.is (
      (refl, λ w. ap (λ o. lent_by s h c.args.a.word o w) (sym f.is)),
      record {
        lends = tt;
        value = ap (λ st. option_and_then payload_of (of_locked (λ o frames. object_at o frames c.args.a.word) st)) (standing-found s h x f) ∙ unread c.index_mut.result.now x c.args.a.word (Some c.payload_mut.result.now) c.in-Some.is c.payload_mut.ensures.value;
      },
    )
