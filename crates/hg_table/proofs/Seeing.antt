-- What is known of pages that were looked at.
use Rattle.std.specs.Prelude.{◌≡◌, ℕ, ◌+◌, ◌<◌, ◌≤◌, ◌==◌, ◌&&◌, not, List, slice_index, Option, Some, None, MatchOption, Err, if◌then◌else◌}
use Rattle.std.proofs.Common.{sym, ◌∙◌, ap, subst, refl, arith, inl, inr}
use Rattle.std.proofs.lemmas.Bool.{cases_eq, cases_lt, le-ltb}
use Rattle.hg_base.specs.Space.{Space, NoPins, IsSame}
use Rattle.hg_base.specs.Causes.{Later}
use Rattle.hg_base.specs.SteadyLaws.{Steady_refused, Steady_then}
use Rattle.hg_slot.specs.Slotted.{slots, offset, body, record_at, Fits, IsSlotted, IsClean}
use Rattle.hg_slot.specs.Changing.{IsInserted, IsFullFor, IsPut, IsWrong, InsertChecked, HeadChecked, fault_at}
use Rattle.hg_base.specs.declared.Check.{Check}
use Rattle.hg_base.specs.declared.Check.TheVariants as check
use Rattle.hg_table.specs.Versions.{RowVersion, Shows, most_slots}
use Rattle.hg_table.specs.Calls.{none_mine}
use Rattle.hg_table.specs.Steps.{HoldsRecord, Looks, Refused, IsWrongAt, IsWrongVersion, IsWrongRecord, IsWrongPage}

-- nothing happened
pub same_space : (a : Space) → IsSame a a
same_space a = record { counts = a.counts; after = refl }

-- there is no record behind the slots
pub record-out : (page : List ℕ) (k : ℕ) → slots page ≤ k → record_at page k ≡ None
unfolding record_at
record-out page k h = ap (λ b. if (b && not (offset page k == 0)) then Some (body page k) else None) (le-ltb k (slots page) h)

pub most_slots-is : most_slots ≡ 128
unfolding most_slots
most_slots-is = refl

pub none_past : (page : List ℕ) (k : ℕ) → IsSlotted page → 128 ≤ k → record_at page k ≡ None
none_past page k s h = record-out page k (omega (arith, s.few))

-- the slot of a record is one of the slots
pub slot_small : (page r : List ℕ) (k : ℕ) → IsSlotted page → record_at page k ≡ Some r → k < most_slots
slot_small page r k s e = elim (cases_lt k 128) [
  | inl h ↦ omega (arith, most_slots-is)
  | inr h ↦ absurd (let n : ◌≡◌ {A = Option (List ℕ)} None (Some r) = sym (none_past page k s h) ∙ e in cc)
]

-- one more slot that is empty
pub none_more : (page : List ℕ) (from k : ℕ) → ((j : ℕ) → from ≤ j → j < k → record_at page j ≡ None) → record_at page k ≡ None
    → (j : ℕ) → from ≤ j → j < k + 1 → record_at page j ≡ None
none_more page from k none here j l h = elim (cases_eq j k) [
  | inl e ↦ ap (record_at page) e ∙ here
  | inr d ↦ none j l (omega arith)
]

-- a page that was empty holds the one record that was put there
pub one_record : (a b r : List ℕ) (slot : ℕ) → slots a ≡ 0 → IsClean a → IsInserted a b slot r → HoldsRecord b slot r
one_record a b r slot none clean i = record {
  slotted = i.slotted;
  clean = i.clean clean;
  here = i.here;
  others = λ k n. i.others k n ∙ record-out a k (omega arith);
}

-- a call that was refused changed counts alone
pub refused : (a b : Space) → NoPins a → IsSame a b → Later a.counts b.counts → Refused a b
refused a b out e l = record { steady = Steady_refused none_mine a b out e l; taken = ap (λ s. s.taken) e.after }

-- a call that looked and was then refused
pub refused_behind : (a b c : Space) → Looks a b → Refused b c → Refused a c
refused_behind a b c l r = record { steady = Steady_then none_mine a b c l.steady r.steady; taken = r.taken ∙ l.takes_none.taken }

-- what was put into an empty page
pub put_first : (a b r : List ℕ) (o : Option ℕ) (n slot : ℕ) → o ≡ Some slot → MatchOption o (IsFullFor a b n) (λ s. IsPut a b s r) → IsSlotted a → slots a ≡ 0 → IsClean a → HoldsRecord b slot r
put_first a b r o n slot e put s none clean = let p = subst (λ z. MatchOption z (IsFullFor a b n) (λ i. IsPut a b i r)) e put in one_record a b r slot none clean (p.inserted s)

pub never_full : (a b r : List ℕ) (o : Option ℕ) (n : ℕ) → o ≡ None → MatchOption o (IsFullFor a b n) (λ s. IsPut a b s r) → Fits a n → ⊥
never_full a b r o n e put f = let p = subst (λ z. MatchOption z (IsFullFor a b n) (λ i. IsPut a b i r)) e put in p.full f

-- what was found wrong
pub insert_wrong : (T : Type 0) (page : List ℕ) (n : ℕ) (e : Check) → InsertChecked {T = T} page n (Err e) → IsWrong page e
insert_wrong T page n check.Kind h = h
insert_wrong T page n check.Size h = (h.0, h.2)
insert_wrong T page n check.Frame h = h
insert_wrong T page n check.Link h = h
insert_wrong T page n check.Level h = h
insert_wrong T page n check.Order h = h
insert_wrong T page n check.RowBytes h = h

pub insert_right : (T : Type 0) (page : List ℕ) (n : ℕ) (e : Check) → IsSlotted page → InsertChecked {T = T} page n (Err e) → ⊥
insert_right T page n check.Kind s h = h s.kind
insert_right T page n check.Size s h = h.2 s
insert_right T page n check.Frame s h = h
insert_right T page n check.Link s h = h
insert_right T page n check.Level s h = h
insert_right T page n check.Order s h = h
insert_right T page n check.RowBytes s h = h

pub head_is_wrong : (page : List ℕ) (e : Check) → HeadChecked page (Err e) → IsWrong page e
head_is_wrong page check.Kind h = h
head_is_wrong page check.Size h = (h.0, λ s. h.1 (record { few = s.few; behind = s.behind; ends = s.ends }))
head_is_wrong page check.Frame h = h
head_is_wrong page check.Link h = h
head_is_wrong page check.Level h = h
head_is_wrong page check.Order h = h
head_is_wrong page check.RowBytes h = h

pub wrong_at : (page : List ℕ) (columns slot : ℕ) (e : Check) → IsWrong page e → Some e ≡ fault_at page slot → IsWrongAt page columns slot e
wrong_at page columns slot check.Kind h f = h
wrong_at page columns slot check.Size h f = (sym f, h.1)
wrong_at page columns slot check.Frame h f = h
wrong_at page columns slot check.Link h f = h
wrong_at page columns slot check.Level h f = h
wrong_at page columns slot check.Order h f = h
wrong_at page columns slot check.RowBytes h f = absurd h

pub wrong_version : (page : List ℕ) (columns slot : ℕ) (e : Check) → IsWrong page e → Some e ≡ fault_at page slot → IsWrongVersion page columns slot e
wrong_version page columns slot check.Kind h f = h
wrong_version page columns slot check.Size h f = (sym f, h.1)
wrong_version page columns slot check.Frame h f = h
wrong_version page columns slot check.Link h f = h
wrong_version page columns slot check.Level h f = h
wrong_version page columns slot check.Order h f = h
wrong_version page columns slot check.RowBytes h f = absurd h

pub wrong_record : (page : List ℕ) (slot : ℕ) (e : Check) → IsWrong page e → Some e ≡ fault_at page slot → IsWrongRecord page slot e
wrong_record page slot check.Kind h f = h
wrong_record page slot check.Size h f = (sym f, h.1)
wrong_record page slot check.Frame h f = h
wrong_record page slot check.Link h f = h
wrong_record page slot check.Level h f = h
wrong_record page slot check.Order h f = h
wrong_record page slot check.RowBytes h f = absurd h

pub wrong_head : (page : List ℕ) (columns : ℕ) (e : Check) → IsWrong page e → IsWrongPage page columns e
wrong_head page columns check.Kind h = h
wrong_head page columns check.Size h = h
wrong_head page columns check.Frame h = h
wrong_head page columns check.Link h = h
wrong_head page columns check.Level h = h
wrong_head page columns check.Order h = h
wrong_head page columns check.RowBytes h = absurd h

pub wrong_slot : (page : List ℕ) (columns slot : ℕ) (e : Check) → slice_index page 0 ≡ 83 → IsWrongAt page columns slot e → IsWrongPage page columns e
wrong_slot page columns slot check.Kind k h = h
wrong_slot page columns slot check.Size k h = (k, h.1)
wrong_slot page columns slot check.Frame k h = h
wrong_slot page columns slot check.Link k h = h
wrong_slot page columns slot check.Level k h = h
wrong_slot page columns slot check.Order k h = h
wrong_slot page columns slot check.RowBytes k h = λ held each. h (held slot) (each slot)

-- a page that may be looked at has nothing of it
pub page_right : (page : List ℕ) (columns : ℕ) (e : Check) (held : ℕ → Option RowVersion) → IsSlotted page → ((k : ℕ) → Shows columns (record_at page k) (held k)) → IsWrongPage page columns e → ⊥
page_right page columns check.Kind held s each h = h s.kind
page_right page columns check.Size held s each h = h.1 s
page_right page columns check.Frame held s each h = h
page_right page columns check.Link held s each h = h
page_right page columns check.Level held s each h = h
page_right page columns check.Order held s each h = h
page_right page columns check.RowBytes held s each h = h held each

pub ruleset insertion_wrong = (insert_wrong)

pub ruleset slot_wrong = (wrong_at, wrong_version, wrong_record)

pub ruleset head_wrong = (head_is_wrong, record-out)

pub ruleset page_wrong = (head_is_wrong, wrong_head, wrong_slot)
