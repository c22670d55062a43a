use Rattle.std.proofs.Common.{ap, sym, ◌∙◌, Ok, arith, inl, inr}
use Rattle.std.proofs.lemmas.Bool.{cases_eq, cases_lt}
use Rattle.hg_slot.specs.Slotted.{record_at}
use Rattle.hg_table.specs.Marks.{committed}
use Rattle.hg_table.specs.Places.{sees}
use Rattle.hg_table.proofs.Searching.{seen_slot}
use Rattle.hg_table.proofs.Seeing.{record-out}
use Rattle.hg_table.proofs.Walking.{shown_none}
use Rattle.hg_table.proofs.seeking.next_seen.Goals as goal

pub returns-in-Ok-true-clause-seen : goal.returns-in-Ok-true-clause-seen
returns-in-Ok-true-clause-seen c = λ held each.
    seen_slot (committed c.args.stamps.now) c.args.snapshot.0 c.args.page.now c.args.columns held c.args.from c.loop-slot.slot c.read_in.new.out
    c.loop-slot.auto.slot (each c.loop-slot.slot) (c.loop-slot.invariant.none held each)
    (λ v shows. sym c.in-Ok-true.field-0-test ∙ c.in-Ok-true.ensures.seen v shows)
    (λ v shows. c.in-Ok-true.ensures.row (ap Ok c.in-Ok-true.field-0-test) v shows)

pub loop-slot-preserved : goal.loop-slot-preserved
loop-slot-preserved c = record {
  same = c.in-Ok-false.ensures.unseen (ap Ok c.in-Ok-false.field-0-test) ∙ c.loop-slot.invariant.same;
  none = λ held each k l h. elim (cases_eq k c.loop-slot.slot) [
    | inl e ↦ ap (λ i. sees (committed c.args.stamps.now) c.args.snapshot.0 (held i)) e
        ∙ sym (c.in-Ok-false.ensures.seen (held c.loop-slot.slot) (each c.loop-slot.slot)) ∙ c.in-Ok-false.field-0-test
    | inr d ↦ c.loop-slot.invariant.none held each k l (omega arith)
  ];
}

pub returns-clause-seen : goal.returns-clause-seen
returns-clause-seen c = λ held each. (
  λ k l. elim (cases_lt k c.loop-slot.slot) [
    | inl h ↦ c.loop-slot.invariant.none held each k l h
    | inr h ↦
        let e = c.in-Ok.ensures.1 in
        ap (sees (committed c.args.stamps.now) c.args.snapshot.0)
        (shown_none c.args.columns (record_at c.args.page.now k) (held k) (record-out c.args.page.now k (omega arith)) (each k))
  ],
  c.loop-slot.invariant.same,
)
