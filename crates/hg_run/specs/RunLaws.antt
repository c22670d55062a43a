-- Laws of runs, for the layers above.
use Rattle.std.specs.Prelude.{◌≡◌, ℕ, ◌==◌, ◌||◌, Bool, true, false, List, [], ◌∷◌, ◌++◌, Option, Some, None, if◌then◌else◌}
use Rattle.std.specs.List.{AllByRecursion}
use Rattle.std.proofs.Common.{sym, ◌∙◌, ap, subst, refl, append_assoc}
use Rattle.std.proofs.lemmas.Bool.{false≢true}
use Rattle.hg_base.specs.Space.{Space, key_in}
use Rattle.hg_base.specs.LineLaws.{all_map, path-one, same_pages, line_steady}
use Rattle.hg_base.specs.Lines.{NoneMine, has_page}
use Rattle.hg_base.specs.Steadiness.{Mine, Steady, IsSamePage}
use Rattle.hg_base.specs.declared.File.TheVariants.{Temp}
use Rattle.hg_run.specs.declared.Run.{Run}
use Rattle.hg_run.specs.declared.RunPos.{RunPos}
use Rattle.hg_run.specs.Layout.{fits, with_record, layout}
use Rattle.hg_run.specs.LayoutLaws.{layout-one, layout-records, records-one}
use Rattle.hg_run.specs.Runs.{IsChain, IsRun, IsPlace, IsAt, IsAtPage, AllHold, StandsOn, no_run, first_position, records_of}

-- a run with no record, over every space
pub empty_chain : (s : Space) → IsChain s no_run []
empty_chain s = record { line = record { taken = tt; no_heap = tt; path = refl }; last = refl }

pub empty_run : (s : Space) → s.told ≡ true → IsRun s no_run [] []
empty_run s told = record { told = told; chain = empty_chain s; count = refl; page_count = refl; held = tt }

-- its pages are known one way
pub one_chain : (s : Space) (run : Run) (ps qs : List ℕ) → IsChain s run ps → IsChain s run qs → ps ≡ qs
one_chain s run ps qs p q = path-one Temp s.next run.first ps qs p.line.path q.line.path

-- it stays where its pages are not among those of a call
pub chain_stays : (m : Mine) (a b : Space) (run : Run) (pages : List ℕ) → Steady m a b → NoneMine Temp m pages → IsChain a run pages → IsChain b run pages
chain_stays m a b run pages steady apart chain = record {
  line = line_steady Temp m a b run.first pages steady apart chain.line;
  last = chain.last;
}

pub hold_same : (f g : ℕ → Option (List ℕ)) (pages : List ℕ) (held : List (List (List ℕ))) → AllByRecursion (λ x. g (key_in Temp x) ≡ f (key_in Temp x)) pages
    → AllHold f pages held → AllHold g pages held
hold_same f g [] [] e h = h
hold_same f g [] (rs ∷ held) e h = h
hold_same f g (x ∷ pages) [] e h = h
hold_same f g (x ∷ pages) (rs ∷ held) e h =
    (let k = h.0 in record { page = k.page; told = e.0 ∙ k.told; records = k.records; clean = k.clean }, hold_same f g pages held e.1 h.1)

pub run_stays : (m : Mine) (a b : Space) (run : Run) (rs : List (List ℕ)) (pages : List ℕ) → Steady m a b → NoneMine Temp m pages → IsRun a run rs pages → IsRun b run rs pages
run_stays m a b run rs pages steady apart h = record {
  told = steady.told ∙ h.told;
  chain = chain_stays m a b run pages steady apart h.chain;
  count = h.count;
  page_count = h.page_count;
  held = hold_same a.bytes b.bytes pages (layout rs)
      (all_map (λ x. IsSamePage a b (key_in Temp x)) (λ x. b.bytes (key_in Temp x) ≡ a.bytes (key_in Temp x)) pages (λ x s. s.bytes)
      (same_pages Temp m a b run.first pages steady apart h.chain.line)) h.held;
}

-- a call that owns no page leaves every run
pub none_of : (pages : List ℕ) → AllByRecursion (λ x. ⊥ → ⊥) pages
none_of [] = tt
none_of (x ∷ xs) = (λ n. n, none_of xs)

-- the position before the first record
pub at_first : (pages : List ℕ) (rs : List (List ℕ)) → IsAt pages rs first_position [] rs
at_first pages rs = (refl, refl, refl)

split_records : (before : List (List (List ℕ))) (here todo : List (List ℕ)) (after : List (List (List ℕ)))
    → records_of (before ++ (here ++ todo) ∷ after) ≡ (records_of before ++ here) ++ (todo ++ records_of after)
split_records [] here todo after = append_assoc here todo (records_of after)
split_records (page ∷ before) here todo after =
    ap (λ l. page ++ l) (split_records before here todo after)
    ∙ sym (append_assoc page (records_of before ++ here) (todo ++ records_of after))
    ∙ ap (λ l. l ++ (todo ++ records_of after)) (sym (append_assoc page (records_of before) here))

place_splits : (pages : List ℕ) (rs : List (List ℕ)) (o : Option ℕ) (offset : ℕ) (done rest : List (List ℕ)) → IsAtPage pages rs o offset done rest → rs ≡ done ++ rest
place_splits pages rs None offset done rest h = sym (ap (λ l. l ++ rest) h.1 ∙ h.2)
place_splits pages rs (Some x) offset done rest h =
    sym (layout-records rs) ∙ ap records_of h.held_is ∙ split_records h.held_before h.here h.todo h.held_after
    ∙ sym (ap (λ l. l ++ rest) h.done_is ∙ ap (λ l. (records_of h.held_before ++ h.here) ++ l) h.rest_is)

-- the records before a position and those behind it are the run's
pub at_splits : (pages : List ℕ) (rs : List (List ℕ)) (at : RunPos) (done rest : List (List ℕ)) → IsAt pages rs at done rest → rs ≡ done ++ rest
at_splits pages rs at done rest h = place_splits pages rs at.page at.offset done rest h

-- ---- a position stays one when the run grows

append-none : {X : Type 0} (x : List X) → x ++ [] ≡ x
append-none [] = refl
append-none (y ∷ x) = ap (λ r. y ∷ r) (append-none x)

-- what one record more does to the pages from one on: the page keeps what stands before a place of it, and
-- one record more stands behind that place
record Extends (here todo : List (List ℕ)) (after now : List (List (List ℕ))) (r : List ℕ) : Type 0 where
  todo_now : List (List ℕ)
  after_now : List (List (List ℕ))
  is : now ≡ (here ++ todo_now) ∷ after_now
  rest : todo_now ++ records_of after_now ≡ (todo ++ records_of after) ++ r ∷ []

extends : (here todo : List (List ℕ)) (after : List (List (List ℕ))) (r : List ℕ) → Extends here todo after (with_record ((here ++ todo) ∷ after) r) r
extends here todo [] r =
    elim (fits (here ++ todo) r) as (λ b. Extends here todo [] (if b then ((here ++ todo) ++ r ∷ []) ∷ [] else (here ++ todo) ∷ (r ∷ []) ∷ []) r) [
      | true ↦ record {
        todo_now = todo ++ r ∷ [];
        after_now = [];
        is = ap (λ l. l ∷ []) (append_assoc here todo (r ∷ []));
        rest = append-none (todo ++ r ∷ []) ∙ ap (λ l. l ++ r ∷ []) (sym (append-none todo));
      }
      | false ↦ record {
        todo_now = todo;
        after_now = (r ∷ []) ∷ [];
        is = refl;
        rest = ap (λ l. l ++ r ∷ []) (sym (append-none todo));
      }
    ]
extends here todo (q ∷ after) r = record {
  todo_now = todo;
  after_now = with_record (q ∷ after) r;
  is = refl;
  rest = ap (λ l. todo ++ l) (records-one (q ∷ after) r) ∙ sym (append_assoc todo (records_of (q ∷ after)) (r ∷ []));
}

with_record-behind : (before : List (List (List ℕ))) (page : List (List ℕ)) (after : List (List (List ℕ))) (r : List ℕ)
    → with_record (before ++ page ∷ after) r ≡ before ++ with_record (page ∷ after) r
with_record-behind [] page after r = refl
with_record-behind (q ∷ []) page after r = refl
with_record-behind (q ∷ s ∷ before) page after r = ap (λ l. q ∷ l) (with_record-behind (s ∷ before) page after r)

place_stays : (pages more now : List ℕ) (held : List (List (List ℕ))) (x offset : ℕ) (done rest : List (List ℕ)) (r : List ℕ) → now ≡ pages ++ more
    → IsPlace pages held x offset done rest → IsPlace now (with_record held r) x offset done (rest ++ r ∷ [])
place_stays pages more now held x offset done rest r e p =
    let k = extends p.here p.todo p.held_after r in
    record {
      pages_before = p.pages_before;
      pages_after = p.pages_after ++ more;
      held_before = p.held_before;
      here = p.here;
      todo = k.todo_now;
      held_after = k.after_now;
      pages_are = e ∙ ap (λ l. l ++ more) p.pages_are ∙ append_assoc p.pages_before (x ∷ p.pages_after) more;
      held_is = ap (λ h. with_record h r) p.held_is ∙ with_record-behind p.held_before (p.here ++ p.todo) p.held_after r ∙ ap (λ l. p.held_before ++ l) k.is;
      as_many = p.as_many;
      offset_is = p.offset_is;
      done_is = p.done_is;
      rest_is = ap (λ l. l ++ r ∷ []) p.rest_is ∙ sym k.rest;
    }

at_page_stays : (pages more now : List ℕ) (rs : List (List ℕ)) (o : Option ℕ) (offset : ℕ) (done rest : List (List ℕ)) (r : List ℕ) → now ≡ pages ++ more
    → IsAtPage pages rs o offset done rest → IsAtPage now (rs ++ r ∷ []) o offset done (rest ++ r ∷ [])
at_page_stays pages more now rs None offset done rest r e h = (h.0, h.1, ap (λ l. l ++ r ∷ []) h.2)
at_page_stays pages more now rs (Some x) offset done rest r e h =
    let P : List (List (List ℕ)) → Type 0 = λ l. IsPlace now l x offset done (rest ++ r ∷ []) in
    subst P (sym (layout-one rs r)) (place_stays pages more now (layout rs) x offset done rest r e h)

-- behind it is one record more
pub at_stays : (pages more now : List ℕ) (rs : List (List ℕ)) (at : RunPos) (done rest : List (List ℕ)) (r : List ℕ) → now ≡ pages ++ more
    → IsAt pages rs at done rest → IsAt now (rs ++ r ∷ []) at done (rest ++ r ∷ [])
at_stays pages more now rs at done rest r e h = at_page_stays pages more now rs at.page at.offset done rest r e h

has_more : (pages more : List ℕ) (x : ℕ) → has_page pages x ≡ true → has_page (pages ++ more) x ≡ true
has_more [] more x h = absurd (let n : ◌≡◌ {A = Bool} false true = h in false≢true n)
has_more (y ∷ pages) more x h = grow (y == x) (has_page pages x) (has_page (pages ++ more) x) (λ k. has_more pages more x k) h
  where
    grow : (a b c : Bool) → (b ≡ true → c ≡ true) → (a || b) ≡ true → (a || c) ≡ true
    grow true b c f e = refl
    grow false b c f e = f e

stands_more_on : (pages more now : List ℕ) (o : Option ℕ) → now ≡ pages ++ more → StandsOn pages o → StandsOn now o
stands_more_on pages more now None e h = tt
stands_more_on pages more now (Some x) e h = subst (λ l. has_page l x ≡ true) (sym e) (has_more pages more x h)

pub stands_more : (pages more now : List ℕ) (at : RunPos) → now ≡ pages ++ more → StandsOn pages at.page → StandsOn now at.page
stands_more pages more now at e h = stands_more_on pages more now at.page e h
