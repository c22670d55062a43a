-- A run that a caller holds between its calls. Our own rule.
use Rattle.std.specs.Prelude.{◌≡◌, ℕ, ◌^◌, ◌≤◌, Bool, true, false, List, [], ◌∷◌, ◌++◌, Result, Ok, Err, IfOk, OnOk, OnErr, ◌⊎◌}
use Rattle.std.proofs.Common.{sym, ◌∙◌, ap, subst, refl, arith, inl, inr}
use Rattle.hg_base.specs.Space.{Space, NoPins}
use Rattle.hg_base.specs.Steadiness.{Mine, Steady}
use Rattle.hg_base.specs.declared.File.TheVariants.{Temp}
use Rattle.hg_base.specs.declared.pages.PageFault.{PageFault}
use Rattle.hg_run.specs.declared.Run.{Run}
use Rattle.hg_run.specs.declared.RunPos.{RunPos}
use Rattle.hg_run.specs.Runs.{IsChain, IsRun, IsAt, StandsOn, no_run, first_position}
use Rattle.hg_run.specs.RunLaws.{empty_chain, empty_run, chain_stays, run_stays, none_of, at_first, at_stays, stands_more}
use Rattle.hg_run.specs.Calls.{none_mine, HasRun, HasPosition, HasWay, Appends, KeepsPages, AddsPage, Reads}

pub record HoldsRecords (s : Space) (run : Run) (pages : List ℕ) : Type 0 where
  pub rs : List (List ℕ)
  pub run_is : IsRun s run rs pages

-- No pin is out, and this is a run; what it holds is known where the space tells.
pub record IsReady (s : Space) (run : Run) : Type 0 where
  pub no_pins : NoPins s
  pub numbers : s.limit Temp ≤ 2 ^ 32
  pub pages : List ℕ
  pub chain : IsChain s run pages
  pub holds : s.told ≡ true → HoldsRecords s run pages

-- a run with no record
pub ready_none : (s : Space) → NoPins s → s.limit Temp ≤ 2 ^ 32 → IsReady s no_run
ready_none s out few = record {
  no_pins = out;
  numbers = few;
  pages = [];
  chain = empty_chain s;
  holds = λ told. record { rs = []; run_is = empty_run s told };
}

-- what an append asks
pub ready_run : (s : Space) (run : Run) → IsReady s run → s.told ≡ true → HasRun s run
ready_run s run r told = let h : HoldsRecords s run r.pages = r.holds told in record { rs = h.rs; pages = r.pages; run_is = h.run_is }

still_few : (m : Mine) (a b : Space) → Steady m a b → a.limit Temp ≤ 2 ^ 32 → b.limit Temp ≤ 2 ^ 32
still_few m a b steady few = let e = ap (λ f. f Temp) steady.limit in omega arith

-- a record more
pub ready_appended : (m : Mine) (a b : Space) (old new : Run) (r : List ℕ) → Steady m a b → ((pages : List ℕ) → IsChain a old pages → Appends a b old new pages r)
    → IsReady a old → IsReady b new
ready_appended m a b old new r steady known h =
    let n : Appends a b old new h.pages r = known h.pages h.chain in
    record {
      no_pins = steady.pins_after;
      numbers = still_few m a b steady h.numbers;
      pages = n.now;
      chain = n.chain;
      holds = λ told.
          let k : HoldsRecords a old h.pages = h.holds (sym steady.told ∙ told) in
          record { rs = k.rs ++ r ∷ []; run_is = n.run_is k.rs k.run_is };
    }

-- a call that owns none of its pages
pub ready_looked : (a b : Space) (run : Run) → Steady none_mine a b → IsReady a run → IsReady b run
ready_looked a b run steady h = record {
  no_pins = steady.pins_after;
  numbers = still_few none_mine a b steady h.numbers;
  pages = h.pages;
  chain = chain_stays none_mine a b run h.pages steady (none_of h.pages) h.chain;
  holds = λ told.
      let k : HoldsRecords a run h.pages = h.holds (sym steady.told ∙ told) in
      record { rs = k.rs; run_is = run_stays none_mine a b run k.rs h.pages steady (none_of h.pages) k.run_is };
}

-- before the first record
pub way_first : (s : Space) (run : Run) → IsReady s run → HasWay s run first_position
way_first s run h = record {
  pages = h.pages;
  chain = h.chain;
  on = tt;
  position = λ told.
      let k : HoldsRecords s run h.pages = h.holds told in
      record { rs = k.rs; done = []; rest = k.rs; run_is = k.run_is; place = at_first h.pages k.rs };
}

-- behind a record that was read
pub way_read : (a b : Space) (run : Run) (old new : RunPos) (out : List ℕ) → Steady none_mine a b → ((pages : List ℕ) → IsChain a run pages → StandsOn pages new.page)
    → ((rs : List (List ℕ)) (pages : List ℕ) (done rest : List (List ℕ)) → IsRun a run rs pages → IsAt pages rs old done rest → Reads true pages rs new done rest out)
    → HasWay a run old → HasWay b run new
way_read a b run old new out steady on known w = record {
  pages = w.pages;
  chain = chain_stays none_mine a b run w.pages steady (none_of w.pages) w.chain;
  on = on w.pages w.chain;
  position = λ told.
      let h : HasPosition a run w.pages old = w.position (sym steady.told ∙ told) in
      let r = known h.rs w.pages h.done h.rest h.run_is h.place in
      record {
        rs = h.rs;
        done = h.done ++ out ∷ [];
        rest = r.behind;
        run_is = run_stays none_mine a b run h.rs w.pages steady (none_of w.pages) h.run_is;
        place = r.place;
      };
}

-- where the position stayed
pub way_looked : (a b : Space) (run : Run) (at : RunPos) → Steady none_mine a b → HasWay a run at → HasWay b run at
way_looked a b run at steady w = record {
  pages = w.pages;
  chain = chain_stays none_mine a b run w.pages steady (none_of w.pages) w.chain;
  on = w.on;
  position = λ told.
      let h : HasPosition a run w.pages at = w.position (sym steady.told ∙ told) in
      record {
        rs = h.rs;
        done = h.done;
        rest = h.rest;
        run_is = run_stays none_mine a b run h.rs w.pages steady (none_of w.pages) h.run_is;
        place = h.place;
      };
}

-- whatever an append answers
pub ready_put : {T : Type 0} (a b : Space) (old new : Run) (r : List ℕ) (m : Mine) (result : Result T PageFault)
    → OnOk result ((pages : List ℕ) → IsChain a old pages → Appends a b old new pages r) → OnOk result (Steady m a b)
    → OnErr result (new ≡ old) → OnErr result (Steady none_mine a b) → IsReady a old → IsReady b new
ready_put a b old new r m (Ok x) ok steady same err h = ready_appended m a b old new r steady ok h
ready_put a b old new r m (Err f) ok steady same err h = subst (IsReady b) (sym same) (ready_looked a b old err h)

-- whatever a read answers
pub way_after : (a b : Space) (run : Run) (old new : RunPos) (out : List ℕ) (result : Result Bool PageFault) → Steady none_mine a b
    → ((pages : List ℕ) → IsChain a run pages → StandsOn pages new.page)
    → IfOk result (λ read. (rs : List (List ℕ)) (pages : List ℕ) (done rest : List (List ℕ)) → IsRun a run rs pages → IsAt pages rs old done rest → Reads read pages rs new done rest out)
    → (result ≡ Ok false → new ≡ old) → OnErr result (new ≡ old) → HasWay a run old → HasWay b run new
way_after a b run old new out (Ok true) steady on known same err w = way_read a b run old new out steady on known w
way_after a b run old new out (Ok false) steady on known same err w = subst (HasWay b run) (sym (same refl)) (way_looked a b run old steady w)
way_after a b run old new out (Err f) steady on known same err w = subst (HasWay b run) (sym err) (way_looked a b run old steady w)

-- what came behind the pages of a run when a record was put behind its records
pages_more_of : (a b : Space) (pages now : List ℕ) → KeepsPages a b pages now ⊎ AddsPage a b pages now → (more : List ℕ) × (now ≡ pages ++ more)
pages_more_of a b pages now h = elim h [
  | inl k ↦ ([], k.same ∙ sym (none pages))
  | inr k ↦ (k.x ∷ [], k.more)
]
  where
    none : (x : List ℕ) → x ++ [] ≡ x
    none [] = refl
    none (y ∷ x) = ap (λ r. y ∷ r) (none x)

-- a position stays one when the run grows
pub way_appended : (m : Mine) (a b : Space) (old new : Run) (r : List ℕ) (at : RunPos) → Steady m a b
    → ((pages : List ℕ) → IsChain a old pages → Appends a b old new pages r) → HasWay a old at → HasWay b new at
way_appended m a b old new r at steady known w =
    let n : Appends a b old new w.pages r = known w.pages w.chain in
    let k : (more : List ℕ) × (n.now ≡ w.pages ++ more) = pages_more_of a b w.pages n.now n.grown in
    record {
      pages = n.now;
      chain = n.chain;
      on = stands_more w.pages k.0 n.now at k.1 w.on;
      position = λ told.
          let h : HasPosition a old w.pages at = w.position (sym steady.told ∙ told) in
          record {
            rs = h.rs ++ r ∷ [];
            done = h.done;
            rest = h.rest ++ r ∷ [];
            run_is = n.run_is h.rs h.run_is;
            place = at_stays w.pages k.0 n.now h.rs at h.done h.rest r k.1 h.place;
          };
    }
