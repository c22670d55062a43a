-- Positions of a run, and what is read there.
use Rattle.std.specs.Prelude.{◌≡◌, ℕ, ◌+◌, ◌≤◌, ◌==◌, ◌||◌, Bool, true, false, List, [], ◌∷◌, ◌++◌, length, Option, Some, None}
use Rattle.std.specs.List.{AllByRecursion}
use Rattle.std.proofs.Common.{sym, ◌∙◌, ap, subst, refl, arith, append_assoc, inl, inr}
use Rattle.std.proofs.lemmas.Bool.{eq-eqb, cases_Bool}
use Rattle.hg_base.specs.Space.{Space, key_in}
use Rattle.hg_base.specs.Causes.{HasCause}
use Rattle.hg_base.specs.LineLaws.{all_has, all_map, behind_all, line-plain, line_behind}
use Rattle.hg_base.specs.Lines.{IsLine, IsPath, has_page, pages_behind}
use Rattle.hg_base.specs.Steadiness.{IsPlain}
use Rattle.hg_base.specs.declared.File.TheVariants.{Temp}
use Rattle.hg_base.specs.declared.PageId.{PageId}
use Rattle.hg_base.specs.declared.Check.{Check}
use Rattle.hg_base.specs.declared.pages.PageFault.TheVariants as fault
use Rattle.hg_run.specs.declared.Run.{Run}
use Rattle.hg_run.specs.declared.RunPos.{RunPos}
use Rattle.hg_run.specs.declared.page.Found.{Found}
use Rattle.hg_run.specs.Format.{IsPageAt}
use Rattle.hg_run.specs.Layout.{layout}
use Rattle.hg_run.specs.LayoutLaws.{AllSome, layout-records, layout-some}
use Rattle.hg_run.specs.Runs.{IsChain, IsRun, IsPlace, IsAtNext, StandsAtNext, IsAt, IsAtPage, Holds, AllHold, StandsOn, records_of}
use Rattle.hg_base.specs.declared.pages.PageFault.{PageFault}
use Rattle.hg_run.specs.RunLaws.{one_chain}
use Rattle.hg_run.specs.Calls.{temp_page, HasWay, ReadsOne, NamesGiven, NamesOneOf}
use Rattle.hg_run.specs.Steps.{Looks, IsNext, TakesNext, IsBehind, position_from}
use Rattle.hg_run.proofs.Pages.{spelling-none}
use Rattle.hg_run.proofs.Ending.{first_of}
use Rattle.hg_run.proofs.Filling.{hold_length, looked_chain, looked_run}

some_one : (i j : ℕ) → ◌≡◌ {A = Option ℕ} (Some i) (Some j) → i ≡ j
some_one i j e = cc

-- ---- which page

or_true : (p q : Bool) → q ≡ true → (p || q) ≡ true
or_true true q e = refl
or_true false q e = e

or_left : (p q : Bool) → p ≡ true → (p || q) ≡ true
or_left p q e = ap (λ t. t || q) e

has_own : (xs : List ℕ) → AllByRecursion (λ x. has_page xs x ≡ true) xs
has_own [] = tt
has_own (x ∷ xs) = (
  or_left (x == x) (has_page xs x) (eq-eqb x x refl),
  all_map (λ y. has_page xs y ≡ true) (λ y. has_page (x ∷ xs) y ≡ true) xs (λ y h. or_true (x == y) (has_page xs y) h) (has_own xs),
)

pub on_plain : (s : Space) (run : Run) (pages : List ℕ) (x : ℕ) → IsChain s run pages → has_page pages x ≡ true → IsPlain s (key_in Temp x)
on_plain s run pages x chain on = all_has (λ y. IsPlain s (key_in Temp y)) pages x (line-plain Temp s run.first pages chain.line) on

-- the page behind one of a run is one of it
pub next_on : (s : Space) (run : Run) (pages : List ℕ) (x n : ℕ) → IsChain s run pages → has_page pages x ≡ true → s.next (key_in Temp x) ≡ Some n → has_page pages n ≡ true
next_on s run pages x n chain on e =
    let l : IsLine Temp s (Some n) (pages_behind pages x) =
    subst (λ o. IsLine Temp s o (pages_behind pages x)) e (line_behind Temp s run.first pages x on chain.line) in
    let f = first_of s (pages_behind pages x) n l in
    let P : List ℕ → Type 0 = λ l. AllByRecursion (λ y. has_page pages y ≡ true) l in
    let all : AllByRecursion (λ y. has_page pages y ≡ true) (n ∷ f.more) =
    subst P f.is (behind_all (λ y. has_page pages y ≡ true) pages x (has_own pages)) in
    all.0

first_on : (s : Space) (run : Run) (pages : List ℕ) (x : ℕ) → IsChain s run pages → run.first ≡ Some x → has_page pages x ≡ true
first_on s run [] x chain e = absurd (let n : ◌≡◌ {A = Option ℕ} None (Some x) = sym chain.line.path ∙ e in cc)
first_on s run (y ∷ pages) x chain e =
    let i : y ≡ x = some_one y x (sym chain.line.path.0 ∙ e) in or_left (y == x) (has_page pages x) (eq-eqb y x i)

start_on_page : (s : Space) (run : Run) (pages : List ℕ) (o : Option ℕ) (offset x : ℕ) (pos : RunPos) → IsChain s run pages → StandsOn pages o
    → pos ≡ position_from (record { page = o; offset = offset }) run.first → pos.page ≡ Some x → has_page pages x ≡ true
start_on_page s run pages None offset x pos chain on e h = first_on s run pages x chain (sym (ap (λ (p : RunPos). p.page) e) ∙ h)
start_on_page s run pages (Some y) offset x pos chain on e h =
    let i : y ≡ x = some_one y x (sym (ap (λ (p : RunPos). p.page) e) ∙ h) in subst (λ z. has_page pages z ≡ true) i on

pub start_on : (s : Space) (run : Run) (pages : List ℕ) (at pos : RunPos) (x : ℕ) → IsChain s run pages → StandsOn pages at.page
    → pos ≡ position_from at run.first → pos.page ≡ Some x → has_page pages x ≡ true
start_on s run pages at pos x chain on e h = start_on_page s run pages at.page at.offset x pos chain on e h

pub behind_on : (s : Space) (run : Run) (pages : List ℕ) (x : ℕ) (found : Found) (new : RunPos) → IsChain s run pages → has_page pages x ≡ true → IsBehind s x found new
    → StandsOn pages new.page
behind_on s run pages x found new chain on b = elim b [
  | inl h ↦ subst (StandsOn pages) (sym h.page) on
  | inr h ↦ subst (StandsOn pages) (sym h.page) (next_on s run pages x h.next chain on h.follows)
]

-- ---- which records

hold_at : (f : ℕ → Option (List ℕ)) (before : List ℕ) (x : ℕ) (after : List ℕ) (hb : List (List (List ℕ))) (rs : List (List ℕ)) (ha : List (List (List ℕ)))
    → length before ≡ length hb → AllHold f (before ++ x ∷ after) (hb ++ rs ∷ ha) → Holds f x rs × AllHold f after ha
hold_at f [] x after [] rs ha e h = (h.0, h.1)
hold_at f [] x after (q ∷ hb) rs ha e h = absurd (omega arith)
hold_at f (y ∷ before) x after [] rs ha e h = absurd (omega arith)
hold_at f (y ∷ before) x after (q ∷ hb) rs ha e h = hold_at f before x after hb rs ha (omega arith) h.1

place_held : (f : ℕ → Option (List ℕ)) (pages : List ℕ) (held : List (List (List ℕ))) (x offset : ℕ) (done rest : List (List ℕ)) → (p : IsPlace pages held x offset done rest)
    → AllHold f pages held → Holds f x (p.here ++ p.todo) × AllHold f p.pages_after p.held_after
place_held f pages held x offset done rest p h =
    let P : List ℕ → Type 0 = λ l. AllHold f l held in
    let Q : List (List (List ℕ)) → Type 0 = λ l. AllHold f (p.pages_before ++ x ∷ p.pages_after) l in
    hold_at f p.pages_before x p.pages_after p.held_before (p.here ++ p.todo) p.held_after p.as_many (subst Q p.held_is (subst P p.pages_are h))

-- the page of a place, and where it is there
pub record IsPageOf (s : Space) (x offset : ℕ) (here todo : List (List ℕ)) : Type 0 where
  pub page : List ℕ
  pub told : s.bytes (key_in Temp x) ≡ Some page
  pub is_at : IsPageAt page offset here todo

pub place_page : (s : Space) (run : Run) (rs : List (List ℕ)) (pages : List ℕ) (x offset : ℕ) (done rest : List (List ℕ)) → IsRun s run rs pages
    → (p : IsPlace pages (layout rs) x offset done rest) → IsPageOf s x offset p.here p.todo
place_page s run rs pages x offset done rest h p =
    let k : Holds s.bytes x (p.here ++ p.todo) = (place_held s.bytes pages (layout rs) x offset done rest p h.held).0 in
    record { page = k.page; told = k.told; is_at = record { page_is = k.records; place = p.offset_is } }

-- the first place, where no page is named
first_place : (s : Space) (run : Run) (rs : List (List ℕ)) (pages : List ℕ) (held : List (List (List ℕ))) (x : ℕ) → IsChain s run pages → run.first ≡ Some x
    → AllHold s.bytes pages held → records_of held ≡ rs → IsPlace pages held x 16 [] rs
first_place s run rs [] held x chain e h r = absurd (let n : ◌≡◌ {A = Option ℕ} None (Some x) = sym chain.line.path ∙ e in cc)
first_place s run rs (y ∷ pages) [] x chain e h r = absurd h
first_place s run rs (y ∷ pages) (q ∷ held) x chain e h r =
    let i : y ≡ x = some_one y x (sym chain.line.path.0 ∙ e) in
    record {
      pages_before = [];
      pages_after = pages;
      held_before = [];
      here = [];
      todo = q;
      held_after = held;
      pages_are = ap (λ z. z ∷ pages) i;
      held_is = refl;
      as_many = refl;
      offset_is = let z = ap length spelling-none in omega arith;
      done_is = refl;
      rest_is = sym r;
    }

start_place_page : (s : Space) (run : Run) (rs : List (List ℕ)) (pages : List ℕ) (o : Option ℕ) (offset x : ℕ) (pos : RunPos) (done rest : List (List ℕ)) → IsRun s run rs pages
    → IsAtPage pages rs o offset done rest → pos ≡ position_from (record { page = o; offset = offset }) run.first → pos.page ≡ Some x
    → IsPlace pages (layout rs) x pos.offset done rest
start_place_page s run rs pages None offset x pos done rest h at e i =
    let p = first_place s run rs pages (layout rs) x h.chain (sym (ap (λ (p : RunPos). p.page) e) ∙ i) h.held (layout-records rs) in
    let q : IsPlace pages (layout rs) x 16 done rest =
    subst (λ r. IsPlace pages (layout rs) x 16 done r) (sym at.2) (subst (λ d. IsPlace pages (layout rs) x 16 d rs) (sym at.1) p) in
    subst (λ n. IsPlace pages (layout rs) x n done rest) (sym (ap (λ (p : RunPos). p.offset) e)) q
start_place_page s run rs pages (Some y) offset x pos done rest h at e i =
    let k : y ≡ x = some_one y x (sym (ap (λ (p : RunPos). p.page) e) ∙ i) in
    subst (λ n. IsPlace pages (layout rs) x n done rest) (sym (ap (λ (p : RunPos). p.offset) e))
    (subst (λ z. IsPlace pages (layout rs) z offset done rest) k at)

pub start_place : (s : Space) (run : Run) (rs : List (List ℕ)) (pages : List ℕ) (at pos : RunPos) (x : ℕ) (done rest : List (List ℕ)) → IsRun s run rs pages
    → IsAt pages rs at done rest → pos ≡ position_from at run.first → pos.page ≡ Some x → IsPlace pages (layout rs) x pos.offset done rest
start_place s run rs pages at pos x done rest h place e i = start_place_page s run rs pages at.page at.offset x pos done rest h place e i

-- no page: no record
no_pages : (s : Space) (run : Run) (rs : List (List ℕ)) (pages : List ℕ) (held : List (List (List ℕ))) → IsChain s run pages → run.first ≡ None
    → AllHold s.bytes pages held → records_of held ≡ rs → rs ≡ []
no_pages s run rs [] [] chain e h r = sym r
no_pages s run rs [] (q ∷ held) chain e h r = absurd h
no_pages s run rs (y ∷ pages) held chain e h r = absurd (let n : ◌≡◌ {A = Option ℕ} None (Some y) = sym e ∙ chain.line.path.0 in cc)

start_none_page : (s : Space) (run : Run) (rs : List (List ℕ)) (pages : List ℕ) (o : Option ℕ) (offset : ℕ) (pos : RunPos) (done rest : List (List ℕ)) → IsRun s run rs pages
    → IsAtPage pages rs o offset done rest → pos ≡ position_from (record { page = o; offset = offset }) run.first → pos.page ≡ None → rest ≡ []
start_none_page s run rs pages None offset pos done rest h at e i =
    at.2 ∙ no_pages s run rs pages (layout rs) h.chain (sym (ap (λ (p : RunPos). p.page) e) ∙ i) h.held (layout-records rs)
start_none_page s run rs pages (Some y) offset pos done rest h at e i =
    absurd (let n : ◌≡◌ {A = Option ℕ} (Some y) None = sym (ap (λ (p : RunPos). p.page) e) ∙ i in cc)

pub start_none : (s : Space) (run : Run) (rs : List (List ℕ)) (pages : List ℕ) (at pos : RunPos) (done rest : List (List ℕ)) → IsRun s run rs pages
    → IsAt pages rs at done rest → pos ≡ position_from at run.first → pos.page ≡ None → rest ≡ []
start_none s run rs pages at pos done rest h place e i = start_none_page s run rs pages at.page at.offset pos done rest h place e i

-- ---- from one page to the next

path_from : (next : ℕ → Option ℕ) (from : Option ℕ) (before : List ℕ) (x : ℕ) (after : List ℕ) → IsPath Temp next from (before ++ x ∷ after)
    → IsPath Temp next (next (key_in Temp x)) after
path_from next from [] x after h = h.1
path_from next from (y ∷ before) x after h = path_from next (next (key_in Temp y)) before x after h.1

records_append : (a b : List (List (List ℕ))) → records_of (a ++ b) ≡ records_of a ++ records_of b
records_append [] b = refl
records_append (q ∷ a) b = ap (λ l. q ++ l) (records_append a b) ∙ sym (append_assoc q (records_of a) (records_of b))

append-none : (x : List (List ℕ)) → x ++ [] ≡ x
append-none [] = refl
append-none (y ∷ x) = ap (λ r. y ∷ r) (append-none x)

length-one : {X : Type 0} (xs : List X) (x : X) → length (xs ++ x ∷ []) ≡ length xs + 1
length-one [] x = refl
length-one (y ∷ xs) x = let e = length-one xs x in omega arith

all_behind : (P : List (List ℕ) → Type 0) (a b : List (List (List ℕ))) → AllByRecursion P (a ++ b) → AllByRecursion P b
all_behind P [] b h = h
all_behind P (x ∷ a) b h = all_behind P a b h.1

-- a place at the head of a page, which has a record
pub record IsHead (pages : List ℕ) (held : List (List (List ℕ))) (x : ℕ) (done rest : List (List ℕ)) : Type 0 where
  pub place : IsPlace pages held x 16 done rest
  pub some : 1 ≤ length place.todo

moves_to : (pages : List ℕ) (held : List (List (List ℕ))) (x n offset : ℕ) (done rest : List (List ℕ)) → (p : IsPlace pages held x offset done rest) → p.todo ≡ []
    → (after : List ℕ) (ha : List (List (List ℕ))) → p.pages_after ≡ after → p.held_after ≡ ha → length after ≡ length ha
    → (next : ℕ → Option ℕ) → next (key_in Temp x) ≡ Some n → IsPath Temp next (next (key_in Temp x)) after → AllSome ha → IsHead pages held n done rest
moves_to pages held x n offset done rest p e [] ha pa pb l next f path some = absurd (let z : ◌≡◌ {A = Option ℕ} (Some n) None = sym f ∙ path in cc)
moves_to pages held x n offset done rest p e (y ∷ after) [] pa pb l next f path some = absurd (omega arith)
moves_to pages held x n offset done rest p e (y ∷ after) (q ∷ ha) pa pb l next f path some =
    let i : y ≡ n = some_one y n (sym path.0 ∙ f) in
    let whole : List (List ℕ) = p.here ++ p.todo in
    let all_here : whole ≡ p.here = ap (λ t. p.here ++ t) e ∙ append-none p.here in
    record {
      place = record {
        pages_before = p.pages_before ++ x ∷ [];
        pages_after = after;
        held_before = p.held_before ++ whole ∷ [];
        here = [];
        todo = q;
        held_after = ha;
        pages_are = p.pages_are ∙ ap (λ l. p.pages_before ++ x ∷ l) (pa ∙ ap (λ z. z ∷ after) i) ∙ sym (append_assoc p.pages_before (x ∷ []) (n ∷ after));
        held_is = p.held_is ∙ ap (λ l. p.held_before ++ whole ∷ l) pb ∙ sym (append_assoc p.held_before (whole ∷ []) (q ∷ ha));
        as_many = let a = length-one p.pages_before x in let b = length-one p.held_before whole in let c = p.as_many in omega arith;
        offset_is = let z = ap length spelling-none in omega arith;
        done_is = p.done_is ∙ ap (λ l. records_of p.held_before ++ l) (sym all_here)
            ∙ ap (λ l. records_of p.held_before ++ l) (sym (append-none whole))
            ∙ sym (records_append p.held_before (whole ∷ []))
            ∙ sym (append-none (records_of (p.held_before ++ whole ∷ [])));
        rest_is = p.rest_is ∙ ap (λ t. t ++ records_of p.held_after) e ∙ ap records_of pb;
      };
      some = some.0;
    }

pub place_moves : (s : Space) (run : Run) (rs : List (List ℕ)) (pages : List ℕ) (x n offset : ℕ) (done rest : List (List ℕ)) → IsRun s run rs pages
    → (p : IsPlace pages (layout rs) x offset done rest) → p.todo ≡ [] → s.next (key_in Temp x) ≡ Some n → IsHead pages (layout rs) n done rest
place_moves s run rs pages x n offset done rest h p e f =
    let rest_held : AllHold s.bytes p.pages_after p.held_after = (place_held s.bytes pages (layout rs) x offset done rest p h.held).1 in
    let Q : List (List (List ℕ)) → Type 0 = λ l. AllSome l in
    let some : AllSome (p.held_before ++ (p.here ++ p.todo) ∷ p.held_after) = subst Q p.held_is (layout-some rs) in
    moves_to pages (layout rs) x n offset done rest p e p.pages_after p.held_after refl refl (hold_length s.bytes p.pages_after p.held_after rest_held)
    s.next f (path_from s.next run.first p.pages_before x p.pages_after (subst (λ l. IsPath Temp s.next run.first l) p.pages_are h.chain.line.path))
    (all_behind (λ page. 1 ≤ length page) p.held_before ((p.here ++ p.todo) ∷ p.held_after) some).1

no_path : (next : ℕ → Option ℕ) (from : Option ℕ) (after : List ℕ) → from ≡ None → IsPath Temp next from after → after ≡ []
no_path next from [] e h = refl
no_path next from (y ∷ after) e h = absurd (let n : ◌≡◌ {A = Option ℕ} None (Some y) = sym e ∙ h.0 in cc)

no_held : (f : ℕ → Option (List ℕ)) (after : List ℕ) (ha : List (List (List ℕ))) → after ≡ [] → AllHold f after ha → ha ≡ []
no_held f after [] e h = refl
no_held f [] (q ∷ ha) e h = absurd h
no_held f (y ∷ after) (q ∷ ha) e h = absurd (let n : ◌≡◌ {A = List ℕ} (y ∷ after) [] = e in cc)

pub place_ends : (s : Space) (run : Run) (rs : List (List ℕ)) (pages : List ℕ) (x offset : ℕ) (done rest : List (List ℕ)) → IsRun s run rs pages
    → (p : IsPlace pages (layout rs) x offset done rest) → p.todo ≡ [] → s.next (key_in Temp x) ≡ None → rest ≡ []
place_ends s run rs pages x offset done rest h p e f =
    let path = path_from s.next run.first p.pages_before x p.pages_after (subst (λ l. IsPath Temp s.next run.first l) p.pages_are h.chain.line.path) in
    let after : p.pages_after ≡ [] = no_path s.next (s.next (key_in Temp x)) p.pages_after f path in
    let ha : p.held_after ≡ [] = no_held s.bytes p.pages_after p.held_after after (place_held s.bytes pages (layout rs) x offset done rest p h.held).1 in
    p.rest_is ∙ ap (λ t. t ++ records_of p.held_after) e ∙ ap records_of ha

-- ---- one record

pub record IsRead (pages : List ℕ) (held : List (List (List ℕ))) (x after : ℕ) (done rest : List (List ℕ)) (out : List ℕ) (is_last : Bool) : Type 0 where
  pub behind : List (List ℕ)
  pub next : rest ≡ out ∷ behind
  pub place : IsPlace pages held x after (done ++ out ∷ []) behind
  pub none_left : is_last ≡ true → place.todo ≡ []
  pub last_is : place.todo ≡ [] → is_last ≡ true

pub place_next : (pages : List ℕ) (held : List (List (List ℕ))) (x offset after : ℕ) (done rest : List (List ℕ)) (out : List ℕ) (is_last : Bool)
    → (p : IsPlace pages held x offset done rest) → IsNext p.here p.todo after is_last out → IsRead pages held x after done rest out is_last
place_next pages held x offset after done rest out is_last p n = record {
  behind = n.rest ++ records_of p.held_after;
  next = p.rest_is ∙ ap (λ t. t ++ records_of p.held_after) n.next;
  place = record {
    pages_before = p.pages_before;
    pages_after = p.pages_after;
    held_before = p.held_before;
    here = p.here ++ out ∷ [];
    todo = n.rest;
    held_after = p.held_after;
    pages_are = p.pages_are;
    held_is = p.held_is ∙ ap (λ l. p.held_before ++ l ∷ p.held_after) (ap (λ t. p.here ++ t) n.next ∙ sym (append_assoc p.here (out ∷ []) n.rest));
    as_many = p.as_many;
    offset_is = n.after_is;
    done_is = ap (λ d. d ++ out ∷ []) p.done_is ∙ append_assoc (records_of p.held_before) p.here (out ∷ []);
    rest_is = refl;
  };
  none_left = n.none_left;
  last_is = n.last_is;
}

at_place : (pages : List ℕ) (rs : List (List ℕ)) (new : RunPos) (x after : ℕ) (done rest : List (List ℕ)) → new.page ≡ Some x → new.offset ≡ after
    → IsPlace pages (layout rs) x after done rest → IsAt pages rs new done rest
at_place pages rs new x after done rest e f p =
    subst (λ o. IsAtPage pages rs o new.offset done rest) (sym e)
    (subst (λ n. IsPlace pages (layout rs) x n done rest) (sym f) p)

at_next_place : (pages : List ℕ) (rs : List (List ℕ)) (new : RunPos) (x after : ℕ) (done rest : List (List ℕ)) → new.page ≡ Some x → new.offset ≡ after
    → IsAtNext pages (layout rs) x after done rest → StandsAtNext pages rs new.page new.offset done rest
at_next_place pages rs new x after done rest e f p =
    subst (λ o. StandsAtNext pages rs o new.offset done rest) (sym e)
    (subst (λ n. IsAtNext pages (layout rs) x n done rest) (sym f) p)

head_is_next : (pages : List ℕ) (held : List (List (List ℕ))) (x : ℕ) (done rest : List (List ℕ)) → IsHead pages held x done rest → IsAtNext pages held x 16 done rest
head_is_next pages held x done rest h = record {
  place = h.place;
  here = λ e. absurd (let z = ap length e in let s = h.some in omega arith);
}

pub reads_one : (s : Space) (run : Run) (rs : List (List ℕ)) (pages : List ℕ) (x offset : ℕ) (done rest : List (List ℕ)) (found : Found) (new : RunPos) (out : List ℕ)
    → IsRun s run rs pages → (p : IsPlace pages (layout rs) x offset done rest) → IsNext p.here p.todo found.after found.is_last out → IsBehind s x found new
    → ReadsOne pages rs new done rest out
reads_one s run rs pages x offset done rest found new out h p n b =
    let r = place_next pages (layout rs) x offset found.after done rest out found.is_last p n in
    record {
      behind = r.behind;
      next = r.next;
      place = elim b [
        | inl k ↦ at_place pages rs new x found.after (done ++ out ∷ []) r.behind k.page k.offset r.place
        | inr k ↦ at_place pages rs new k.next 16 (done ++ out ∷ []) r.behind k.page k.offset
            (place_moves s run rs pages x k.next found.after (done ++ out ∷ []) r.behind h r.place (r.none_left k.is_last) k.follows).place
      ];
      at_next = elim b [
        | inl k ↦ at_next_place pages rs new x found.after (done ++ out ∷ []) r.behind k.page k.offset
            (record { place = r.place; here = λ e. place_ends s run rs pages x found.after (done ++ out ∷ []) r.behind h r.place e (k.ends (r.last_is e)) })
        | inr k ↦ at_next_place pages rs new k.next 16 (done ++ out ∷ []) r.behind k.page k.offset
            (head_is_next pages (layout rs) k.next (done ++ out ∷ []) r.behind
            (place_moves s run rs pages x k.next found.after (done ++ out ∷ []) r.behind h r.place (r.none_left k.is_last) k.follows))
      ];
    }

pub is_next : (s : Space) (run : Run) (rs : List (List ℕ)) (pages : List ℕ) (x offset : ℕ) (done rest : List (List ℕ)) (o : Option Found) (found : Found) (out : List ℕ)
    → IsRun s run rs pages → (p : IsPlace pages (layout rs) x offset done rest) → o ≡ Some found
    → ((page : List ℕ) (here todo : List (List ℕ)) → s.bytes (key_in Temp x) ≡ Some page → IsPageAt page offset here todo → TakesNext here todo o out)
    → IsNext p.here p.todo found.after found.is_last out
is_next s run rs pages x offset done rest o found out h p e take =
    let g : IsPageOf s x offset p.here p.todo = place_page s run rs pages x offset done rest h p in
    subst (λ q. TakesNext p.here p.todo q out) e (take g.page p.here p.todo g.told g.is_at)

pub is_end : (s : Space) (run : Run) (rs : List (List ℕ)) (pages : List ℕ) (x offset : ℕ) (done rest : List (List ℕ)) (o : Option Found) (out : List ℕ)
    → IsRun s run rs pages → (p : IsPlace pages (layout rs) x offset done rest) → o ≡ None
    → ((page : List ℕ) (here todo : List (List ℕ)) → s.bytes (key_in Temp x) ≡ Some page → IsPageAt page offset here todo → TakesNext here todo o out)
    → p.todo ≡ []
is_end s run rs pages x offset done rest o out h p e take =
    let g : IsPageOf s x offset p.here p.todo = place_page s run rs pages x offset done rest h p in
    subst (λ q. TakesNext p.here p.todo q out) e (take g.page p.here p.todo g.told g.is_at)

-- damage that a space that tells would not show
pub damage_cause : (a d : Space) (page : PageId) (check : Check) → HasCause a d None → (a.told ≡ true → ⊥) → HasCause a d (Some (fault.Damaged page check))
damage_cause a d page check h n = record {
  later = h.later;
  counts = h.counts;
  damage = elim (cases_Bool a.told) [ inl t ↦ absurd (n t) | inr f ↦ f ];
}

-- ---- the steps of a read

-- the page of a position is one of these, however they are known
pub on_these : (s : Space) (run : Run) (at : RunPos) (pages : List ℕ) → HasWay s run at → IsChain s run pages → StandsOn pages at.page
on_these s run at pages h chain = subst (λ l. StandsOn l at.page) (one_chain s run h.pages pages h.chain chain) h.on

-- the first page that is looked at is one of the run
pub first_page : (a : Space) (run : Run) (at pos : RunPos) (x : ℕ) (pages : List ℕ) → HasWay a run at → IsChain a run pages
    → pos ≡ position_from at run.first → pos.page ≡ Some x → has_page pages x ≡ true
first_page a run at pos x pages h chain e i = start_on a run pages at pos x chain (on_these a run at pages h chain) e i

-- so is the second one
pub second_page : (a m : Space) (run : Run) (at pos : RunPos) (x n : ℕ) (pages : List ℕ) → HasWay a run at → IsChain a run pages
    → pos ≡ position_from at run.first → pos.page ≡ Some x → Looks a m → m.next (key_in Temp x) ≡ Some n → has_page pages n ≡ true
second_page a m run at pos x n pages h chain e i k f =
    next_on m run pages x n (looked_chain a m run pages k chain) (first_page a run at pos x pages h chain e i) f

pub first_asked : (a : Space) (run : Run) (at pos : RunPos) (x : ℕ) → HasWay a run at → pos ≡ position_from at run.first → pos.page ≡ Some x → a.told ≡ true
    → (page : List ℕ) × (done : List (List ℕ)) × (todo : List (List ℕ)) × (a.bytes (key_in Temp x) ≡ Some page) × IsPageAt page pos.offset done todo
first_asked a run at pos x h e i told =
    let w = h.position told in
    let p = start_place a run w.rs h.pages at pos x w.done w.rest w.run_is w.place e i in
    let g = place_page a run w.rs h.pages x pos.offset w.done w.rest w.run_is p in
    (g.page, p.here, p.todo, g.told, g.is_at)

abbrev pub Takes : Space → ℕ → ℕ → Option Found → List ℕ → Type 0
Takes s x offset o out = (page : List ℕ) (here todo : List (List ℕ)) → s.bytes (key_in Temp x) ≡ Some page → IsPageAt page offset here todo → TakesNext here todo o out

-- where the first page has no record more, the place is at the head of the second
pub second_head : (a m : Space) (run : Run) (rs : List (List ℕ)) (pages : List ℕ) (at pos : RunPos) (x n : ℕ) (done rest : List (List ℕ)) (o : Option Found) (out : List ℕ)
    → IsRun a run rs pages → IsAt pages rs at done rest → pos ≡ position_from at run.first → pos.page ≡ Some x → o ≡ None → Takes a x pos.offset o out
    → Looks a m → m.next (key_in Temp x) ≡ Some n → IsHead pages (layout rs) n done rest
second_head a m run rs pages at pos x n done rest o out h place e i none take k f =
    let p = start_place a run rs pages at pos x done rest h place e i in
    place_moves m run rs pages x n pos.offset done rest (looked_run a m run rs pages k h) p (is_end a run rs pages x pos.offset done rest o out h p none take) f

pub second_asked : (a m : Space) (run : Run) (at pos : RunPos) (x n : ℕ) (o : Option Found) (out : List ℕ) → HasWay a run at → pos ≡ position_from at run.first
    → pos.page ≡ Some x → o ≡ None → Takes a x pos.offset o out → Looks a m → m.next (key_in Temp x) ≡ Some n → m.told ≡ true
    → (page : List ℕ) × (done : List (List ℕ)) × (todo : List (List ℕ)) × (m.bytes (key_in Temp n) ≡ Some page) × IsPageAt page 16 done todo
second_asked a m run at pos x n o out h e i none take k f told =
    let w = h.position (sym k.steady.told ∙ told) in
    let q = second_head a m run w.rs h.pages at pos x n w.done w.rest o out w.run_is w.place e i none take k f in
    let g = place_page m run w.rs h.pages n 16 w.done w.rest (looked_run a m run w.rs h.pages k w.run_is) q.place in
    (g.page, q.place.here, q.place.todo, g.told, g.is_at)

-- a record of the first page, and of the second
pub first_reads : (a m : Space) (run : Run) (rs : List (List ℕ)) (pages : List ℕ) (at pos new : RunPos) (x : ℕ) (done rest : List (List ℕ)) (o : Option Found) (found : Found) (out : List ℕ)
    → IsRun a run rs pages → IsAt pages rs at done rest → pos ≡ position_from at run.first → pos.page ≡ Some x → o ≡ Some found → Takes a x pos.offset o out
    → Looks a m → IsBehind m x found new → ReadsOne pages rs new done rest out
first_reads a m run rs pages at pos new x done rest o found out h place e i some take k b =
    let p = start_place a run rs pages at pos x done rest h place e i in
    reads_one m run rs pages x pos.offset done rest found new out (looked_run a m run rs pages k h) p
    (is_next a run rs pages x pos.offset done rest o found out h p some take) b

pub second_reads : (a m d : Space) (run : Run) (rs : List (List ℕ)) (pages : List ℕ) (at pos new : RunPos) (x n : ℕ) (done rest : List (List ℕ)) (o q : Option Found) (found : Found) (out before : List ℕ)
    → IsRun a run rs pages → IsAt pages rs at done rest → pos ≡ position_from at run.first → pos.page ≡ Some x → o ≡ None → Takes a x pos.offset o before
    → Looks a m → m.next (key_in Temp x) ≡ Some n → q ≡ Some found → Takes m n 16 q out → Looks m d → IsBehind d n found new → ReadsOne pages rs new done rest out
second_reads a m d run rs pages at pos new x n done rest o q found out before h place e i none take k f some take2 k2 b =
    let head = second_head a m run rs pages at pos x n done rest o before h place e i none take k f in
    let at_m = looked_run a m run rs pages k h in
    reads_one d run rs pages n 16 done rest found new out (looked_run m d run rs pages k2 at_m) head.place
    (is_next m run rs pages n 16 done rest q found out at_m head.place some take2) b

-- no record where there is no second page
pub reads_none : (a m : Space) (run : Run) (rs : List (List ℕ)) (pages : List ℕ) (at pos : RunPos) (x : ℕ) (done rest : List (List ℕ)) (o : Option Found) (out : List ℕ)
    → IsRun a run rs pages → IsAt pages rs at done rest → pos ≡ position_from at run.first → pos.page ≡ Some x → o ≡ None → Takes a x pos.offset o out
    → Looks a m → m.next (key_in Temp x) ≡ None → rest ≡ []
reads_none a m run rs pages at pos x done rest o out h place e i none take k f =
    let p = start_place a run rs pages at pos x done rest h place e i in
    place_ends m run rs pages x pos.offset done rest (looked_run a m run rs pages k h) p (is_end a run rs pages x pos.offset done rest o out h p none take) f

-- the second page is not without a record
pub second_some : (a m : Space) (run : Run) (at pos : RunPos) (x n : ℕ) (o q : Option Found) (out before : List ℕ) → HasWay a run at → pos ≡ position_from at run.first
    → pos.page ≡ Some x → o ≡ None → Takes a x pos.offset o before → Looks a m → m.next (key_in Temp x) ≡ Some n → q ≡ None → Takes m n 16 q out → a.told ≡ true → ⊥
second_some a m run at pos x n o q out before h e i none take k f none2 take2 told =
    let w = h.position told in
    let head = second_head a m run w.rs h.pages at pos x n w.done w.rest o before w.run_is w.place e i none take k f in
    let z = ap length (is_end m run w.rs h.pages n 16 w.done w.rest q out (looked_run a m run w.rs h.pages k w.run_is) head.place none2 take2) in
    let s = head.some in
    omega arith

pub names_one : (pages : List ℕ) (x : ℕ) (f : PageFault) → has_page pages x ≡ true → NamesGiven (Some x) f → NamesOneOf pages f
names_one pages x fault.MainFault on h = tt
names_one pages x fault.TempFault on h = tt
names_one pages x fault.MainFull on h = tt
names_one pages x fault.TempFull on h = tt
names_one pages x (fault.Damaged page check) on h =
    let n : page.no ≡ x = ap (λ (p : PageId). p.no) h in
    (h ∙ ap temp_page (sym n), subst (λ z. has_page pages z ≡ true) (sym n) on)
