-- The walk of an UPDATE, the rows that it stores, and the run that it gives back are the whole change.
use Rattle.std.specs.Prelude.{◌≡◌, ℕ, ◌≤◌, Bool, true, false, List, [], ◌∷◌, length, map, Option, Some, None, Result, Ok, Err, IfOk, IfErr, slice_get}
use Rattle.std.specs.List.{AllByRecursion, count_by}
use Rattle.std.proofs.Common.{sym, ◌∙◌, ap, subst, arith, inl, inr}
use Rattle.std.proofs.lemmas.Bool.{false≢true, cases_Bool}
use Rattle.std.proofs.lemmas.List.{length-map}
use Rattle.std.proofs.lemmas.List.Sums.{length-filter}
use Rattle.hg_base.specs.Causes.{HasCause}
use Rattle.hg_base.specs.Count.{raised, Rose}
use Rattle.hg_base.specs.LineLaws.{all_has}
use Rattle.hg_base.specs.Lines.{NoneMine, has_page}
use Rattle.hg_base.specs.Space.{Space, Counts, NoPins, key_in}
use Rattle.hg_base.specs.Steadiness.{Steady}
use Rattle.hg_base.specs.SteadyLaws.{Steady_then, Steady_wider, HasCause_behind}
use Rattle.hg_base.specs.TakenLaws.{key_in-one, key_in-apart}
use Rattle.hg_base.specs.declared.File.TheVariants.{Main, Temp}
use Rattle.hg_base.specs.declared.PageId.{PageId}
use Rattle.hg_base.specs.declared.Table.{Table}
use Rattle.hg_base.specs.declared.pages.PageFault.{PageFault}
use Rattle.hg_base.specs.declared.pages.PageFault.TheVariants as fault
use Rattle.hg_catalog.specs.Contents.{CatalogTable}
use Rattle.hg_model.specs.Tables.{fits_columns}
use Rattle.hg_model.specs.declared.trees.Column.{Column}
use Rattle.hg_model.specs.declared.values.Value.{Value}
use Rattle.hg_run.specs.Calls.{pages_mine}
use Rattle.hg_run.specs.Runs.{IsChain as IsRunChain}
use Rattle.hg_run.specs.declared.Run.{Run}
use Rattle.hg_table.specs.Agreement.{IsTableOver, over_stays}
use Rattle.hg_table.specs.Chains.{IsChain}
use Rattle.hg_table.specs.TableLaws.{chain_stays}
use Rattle.hg_table.specs.Versions.{Placed}
use Rattle.hg_dml.specs.Deleting.{Concerns}
use Rattle.hg_dml.specs.Inserting.{StandsOver, OnRefused, OnFault}
use Rattle.hg_dml.specs.Making.{AreCauses, stand}
use Rattle.hg_dml.specs.Putting.{Grows, table_mine}
use Rattle.hg_dml.specs.Rows.{rows_cause}
use Rattle.hg_table.specs.Seen.{seen_rows}
use Rattle.hg_dml.specs.Steps.{IsRefusal}
use Rattle.hg_dml.specs.Updating.{Updates, UpdateIsRefused, UpdatesSome, UpdateFault, FindsUpdating}
use Rattle.hg_dml.specs.UpdateSteps.{GrowsBeside, KeepsRun, LacksRoom, LacksMain, FindsStoring, ChangedAll, ChangedSome, StoresAll, StoresSome, UpdatedBeside, RefusedBeside, SomeBeside, EndsRun}
use Rattle.hg_dml.specs.declared.insertion.ChangeError.{ChangeError}
use Rattle.hg_dml.specs.declared.insertion.ChangeError.TheVariants as change
use Rattle.hg_dml.specs.declared.making.Causes.{Causes}
use Rattle.hg_dml.proofs.AsideLaws.{taken_in-same}
use Rattle.hg_dml.proofs.ChangeLaws.{damaged-temp}
use Rattle.hg_dml.proofs.PutLaws.{last-among, among-taken, none-lent-after, not-before}
use Rattle.hg_dml.proofs.UpdatedLaws.{updated, updated-as, same-made, same-set, hidden-up-to, hidden-none}

-- ---- beside a table

beside-wider : (a b : Space) (t : Table) (pages now temp : List ℕ) (n m : ℕ) → n ≤ m → GrowsBeside a b t pages now n temp → GrowsBeside a b t pages now m temp
beside-wider a b t pages now temp n m less g = record {
  chain = g.chain;
  from = g.from;
  steady = g.steady;
  stays = g.stays;
  none_lent = g.none_lent;
  more = g.more;
  few = let f = g.few in omega arith;
  owned = g.owned;
  fresh = g.fresh;
  others = g.others;
}

-- the pages that a table had were taken
taken-before : (a : Space) (t : Table) (pages : List ℕ) → IsChain a t pages → (x : ℕ) → has_page pages x ≡ true → a.taken (key_in Main x) ≡ true
taken-before a t pages chain x on = (among-taken a.taken (a.limit Main) pages x chain.line.taken on).1

beside-puts : (a b d : Space) (old new : Table) (pages now temp : List ℕ) (run : Run) (n : ℕ) → ((x : ℕ) → has_page pages x ≡ true → a.taken (key_in Main x) ≡ true)
    → GrowsBeside a b old pages pages 0 temp → KeepsRun b d run temp → Grows b d new pages now n → GrowsBeside a d new pages now n temp
beside-puts a b d old new pages now temp run n before g k p = record {
  chain = p.chain;
  from = λ x h. elim (p.from x h) [ inl among ↦ inl among | inr free ↦ inr (not-before a b (key_in Main x) g.stays free) ];
  steady = Steady_then (table_mine a pages) a b d g.steady
      (Steady_wider (table_mine b pages) (table_mine a pages) b d (λ q own. elim own [ inl among ↦ inl among | inr free ↦ inr (not-before a b q g.stays free) ]) (λ h own. own) (λ r own. own) p.steady);
  stays = λ q h. p.stays q (g.stays q h);
  none_lent = λ none. p.none_lent (g.none_lent none);
  more = let one = g.more in let two = p.more in omega arith;
  few = let one = g.few in let two = p.few in omega arith;
  owned = λ x h. elim (p.owned x h) [
    | inl was ↦ elim (g.owned x was) [ inl first ↦ inl first | inr on ↦ inl (before x on) ]
    | inr on ↦ inr on
  ];
  fresh = g.fresh;
  others = λ x none. k.taken x ∙ g.others x none;
}

-- ---- the whole change, while its run is there

module _ (a b : Space) (t : Table) (columns : List Column) (c : ℕ → Bool) (s stamp : ℕ) (goes : List Value → Bool) (made : List Value → List Value) (run : Run) where
  pub walk-fails : (f : PageFault) → ChangedSome a b t columns c s stamp goes run f → SomeBeside a b t t columns c s stamp goes run f
  walk-fails f w = record {
    gone = w.gone;
    each = w.each;
    temp = w.temp;
    chain = w.chain;
    cause = w.cause;
    room = w.room;
    few = λ pages versions table. (w.stopped pages versions table).few;
    done = λ pages chain. (
      pages,
      beside-wider a b t pages pages w.temp 0 (length w.gone) (omega arith) (w.beside pages chain),
      w.found pages chain,
      λ versions table. let h = w.stopped pages versions table in (h.now, h.table, hidden-none c s stamp versions h.now (length w.gone) h.hidden),
    );
  }

  pub walk-refused : (causes : Causes) (n : ℕ) (e : ChangeError) → ((cs : List Column) (rows : List (List Value)) → AreCauses cs rows causes → IsRefusal cs rows e) → ChangedAll a b t columns c s stamp goes made run causes n
      → OnRefused (RefusedBeside a b t columns c s stamp goes made run) e
  walk-refused causes n (change.Refused code column) refusal w = record { n = n; causes = causes; all = w; refusal = refusal columns (map made w.gone) w.are }
  walk-refused causes n (change.Fault f) refusal w = tt

  module _ (causes : Causes) (n : ℕ) (w : ChangedAll a b t columns c s stamp goes made run causes n) (none : stand causes ≡ false) (whole : StandsOver a t columns) where
    pub as-many : length w.rows ≡ n
    as-many = ap length (w.all none) ∙ length-map w.gone made ∙ sym w.many

    here : GrowsBeside a b t whole.pages whole.pages 0 w.temp
    here = w.beside whole.pages whole.chain

    pub stands-after : StandsOver b t columns
    stands-after = record {
      pages = whole.pages;
      chain = here.chain;
      whole = λ told. let old = whole.whole (sym here.steady.told ∙ told) in let e = w.ended whole.pages old.0 old.1 in (e.now, e.table);
    }

    pub pins-after : NoPins b
    pins-after = here.steady.pins_after

    pub stored-pins : (d : Space) (new : Table) → StoresAll b d columns t new stamp run w.temp w.rows → NoPins d
    stored-pins d new p = (p.puts whole.pages here.chain).grows.steady.pins_after

    pub failed-pins : (d : Space) (new : Table) (f : PageFault) → StoresSome b d columns t new stamp run w.temp w.rows f → NoPins d
    failed-pins d new f p = (p.puts whole.pages here.chain).grows.steady.pins_after

    pub stored-updates : (d : Space) (new : Table) → StoresAll b d columns t new stamp run w.temp w.rows → rows_cause columns (map made w.gone) ≡ None
        → UpdatedBeside a d t new columns c s stamp goes made run n
    stored-updates d new p no_cause = record {
      gone = w.gone;
      many = w.many;
      each = w.each;
      no_cause = no_cause;
      temp = w.temp;
      chain = p.keeps.chain;
      cause = HasCause_behind a b d None here.steady.told w.cause p.cause;
      concerned = λ pages versions table. (w.ended pages versions table).concerned;
      done = λ pages chain.
          let g = w.beside pages chain in
          let q = p.puts pages g.chain in (
            q.now,
            subst (λ k. GrowsBeside a d new pages q.now k w.temp) as-many (beside-puts a b d t new pages q.now w.temp run (length w.rows) (taken-before a t pages chain) g p.keeps q.grows),
            λ versions table.
                let e = w.ended pages versions table in
                let j = q.joined e.now e.table in
                (j.0, j.1, updated c s stamp goes made versions e.now j.0 (length w.gone) w.rows (e.deleted none) j.2 (w.all none ∙ ap (map made) e.concerned)),
          );
    }

    room-main : (f : PageFault) → LacksMain b (length w.rows) f → LacksRoom a (length w.gone) f
    room-main fault.MainFault h = tt
    room-main fault.TempFault h = tt
    room-main fault.MainFull h =
        let few = here.few in
        let same : b.limit Main ≡ a.limit Main = ap (λ l. l Main) here.steady.limit in
        let many = w.many in
        let rows = as-many in
        omega arith
    room-main fault.TempFull h = absurd h
    room-main (fault.Damaged page check) h = tt

    finds-stored : (d : Space) (new : Table) (now : List ℕ) (f : PageFault) → IsChain d new now → FindsStoring new.last w.temp f → FindsUpdating a now f
    finds-stored d new now fault.MainFault chain h = tt
    finds-stored d new now fault.TempFault chain h = tt
    finds-stored d new now fault.MainFull chain h = tt
    finds-stored d new now fault.TempFull chain h = tt
    finds-stored d new now (fault.Damaged page check) chain h = elim h.0 [
      | inl last ↦ record { at = inl (ap (λ (p : PageId). p.file) last.0, last-among now page.no (sym chain.last ∙ last.1)); failed = h.1 }
      | inr temp ↦ damaged-temp a now w.temp page page.no check here.fresh temp.0 temp.1 h.1
    ]

    pub stored-fails : (d : Space) (new : Table) (f : PageFault) → StoresSome b d columns t new stamp run w.temp w.rows f → SomeBeside a d t new columns c s stamp goes run f
    stored-fails d new f p = record {
      gone = w.gone;
      each = w.each;
      temp = w.temp;
      chain = p.keeps.chain;
      cause = HasCause_behind a b d (Some f) here.steady.told w.cause p.cause;
      room = room-main f p.room;
      few = λ pages versions table.
          let e = w.ended pages versions table in
          let all : length w.gone ≡ count_by goes (seen_rows c s versions) = ap length e.concerned ∙ length-filter goes (seen_rows c s versions) in
          omega arith;
      done = λ pages chain.
          let g = w.beside pages chain in
          let q = p.puts pages g.chain in
          let less : length p.done ≤ length w.gone = (let few = p.few in let many = w.many in let rows = as-many in omega arith) in (
            q.now,
            beside-wider a d new pages q.now w.temp (length p.done) (length w.gone) less (beside-puts a b d t new pages q.now w.temp run (length p.done) (taken-before a t pages chain) g p.keeps q.grows),
            finds-stored d new q.now f q.grows.chain p.found,
            λ versions table.
                let e = w.ended pages versions table in
                let j = q.joined e.now e.table in
                (j.0, j.1, hidden-up-to c s stamp versions e.now j.0 p.done (length w.gone) e.hidden j.2 less),
          );
    }

-- ---- the run is given back

run-apart : (temp pages : List ℕ) → NoneMine Main (pages_mine temp) pages
run-apart temp [] = tt
run-apart temp (x ∷ xs) = (λ own. key_in-apart x own.0 own.1, run-apart temp xs)

module _ (a d e : Space) (temp : List ℕ) (r : EndsRun d e temp) where
  steady : Steady (pages_mine temp) d e
  steady = r.ends.steady

  pub table-after : (t : Table) (columns : List Column) (pages : List ℕ) (versions : List Placed) → IsTableOver d t columns pages versions → IsTableOver e t columns pages versions
  table-after t columns pages versions table = over_stays (pages_mine temp) d e t columns pages versions steady (run-apart temp pages) table

  not-own : (x : ℕ) → has_page temp x ≡ false → (n : ℕ) × (key_in Temp x ≡ key_in Temp n) × (has_page temp n ≡ true) → ⊥
  not-own x none own = false≢true (sym none ∙ subst (λ y. has_page temp y ≡ true) (sym (key_in-one Temp x own.0 own.1)) own.2)

  module _ (new : Table) (pages now : List ℕ) (n : ℕ) (g : GrowsBeside a d new pages now n temp) where
    own-fresh : (q : ℕ) → (m : ℕ) × (q ≡ key_in Temp m) × (has_page temp m ≡ true) → a.taken q ≡ false
    own-fresh q own = ap a.taken own.1 ∙ all_has (λ x. a.taken (key_in Temp x) ≡ false) temp own.0 g.fresh own.2

    temp-same : (x : ℕ) → e.taken (key_in Temp x) ≡ a.taken (key_in Temp x)
    temp-same x = elim (cases_Bool (has_page temp x)) [
      | inl on ↦ all_has (λ y. e.taken (key_in Temp y) ≡ false) temp x r.ends.gone on ∙ sym (all_has (λ y. a.taken (key_in Temp y) ≡ false) temp x g.fresh on)
      | inr off ↦ steady.taken (key_in Temp x) (not-own x off) ∙ g.others x off
    ]

    main-same : (x : ℕ) → e.taken (key_in Main x) ≡ d.taken (key_in Main x)
    main-same x = steady.taken (key_in Main x) (λ own. key_in-apart x own.0 own.1)

    pub given-back : Grows a e new pages now n
    given-back = record {
      chain = chain_stays (pages_mine temp) d e new now steady (run-apart temp now) g.chain;
      from = g.from;
      steady = Steady_then (table_mine a pages) a d e g.steady
          (Steady_wider (pages_mine temp) (table_mine a pages) d e (λ q own. inr (own-fresh q own)) (λ h own. own) (λ h own. own) steady);
      stays = λ q h. steady.taken q (λ own. false≢true (sym (own-fresh q own) ∙ h)) ∙ g.stays q h;
      none_lent = λ none. none-lent-after (pages_mine temp) d e steady (λ q own. ap e.of_heap own.1 ∙ all_has (λ x. e.of_heap (key_in Temp x) ≡ false) temp own.0 r.no_heap own.2) (g.none_lent none);
      more = let up = g.more in let same = taken_in-same d e Main steady.limit main-same in omega arith;
      few = let up = g.few in let same = taken_in-same d e Main steady.limit main-same in omega arith;
      owned = λ x h. g.owned x (sym (main-same x) ∙ h);
      temp = taken_in-same a e Temp (steady.limit ∙ g.steady.limit) temp-same;
    }

update-fault : (a d e : Space) (n : ℕ) (f : PageFault) → e.counts ≡ d.counts → LacksRoom a n f → HasCause a d (Some f) → UpdateFault a e n f
update-fault a d e n f same room h = by f room h
  where
    rose : (x y : ℕ) → y ≡ raised x 1 → Rose x y
    rose x y e = omega (arith, e)

    by : (f : PageFault) → LacksRoom a n f → HasCause a d (Some f) → UpdateFault a e n f
    by fault.MainFault room h = (rose a.counts.main e.counts.main (ap (λ (k : Counts). k.main) (same ∙ h.counts)), rose a.counts.main_device e.counts.main_device (ap (λ (k : Counts). k.main_device) (same ∙ h.counts)))
    by fault.TempFault room h = (rose a.counts.temp e.counts.temp (ap (λ (k : Counts). k.temp) (same ∙ h.counts)), rose a.counts.temp_device e.counts.temp_device (ap (λ (k : Counts). k.temp_device) (same ∙ h.counts)))
    by fault.MainFull room h = (room, rose a.counts.main_full e.counts.main_full (ap (λ (k : Counts). k.main_full) (same ∙ h.counts)))
    by fault.TempFull room h = (room, rose a.counts.temp_full e.counts.temp_full (ap (λ (k : Counts). k.temp_full) (same ∙ h.counts)))
    by (fault.Damaged page check) room h = h.damage

module _ (a d e : Space) (old new : Table) (columns : List Column) (c : ℕ → Bool) (s stamp : ℕ) (goes : List Value → Bool) (made : List Value → List Value) (run : Run) (pages : List ℕ) (chain : IsChain a old pages) where
  pub updates : (n : ℕ) (u : UpdatedBeside a d old new columns c s stamp goes made run n) → EndsRun d e u.temp → Updates a e old new pages columns c s stamp goes made n
  updates n u r =
      let k = u.done pages chain in
      record {
        gone = u.gone;
        concerned = record { each = u.each; all = u.concerned pages };
        many = u.many;
        no_cause = u.no_cause;
        now = k.0;
        grows = given-back a d e u.temp r new pages k.0 n k.1;
        counts = r.ends.counts ∙ u.cause.counts;
        updated = λ versions table. let m = k.2 versions table in (m.0, table-after a d e u.temp r new columns k.0 m.0 m.1, m.2);
      }

  pub updates-some : (f : PageFault) (u : SomeBeside a d old new columns c s stamp goes run f) → EndsRun d e u.temp → UpdatesSome a e old new pages columns c s stamp goes f
  updates-some f u r =
      let k = u.done pages chain in
      record {
        gone = u.gone;
        each = u.each;
        few = u.few pages;
        now = k.0;
        grows = given-back a d e u.temp r new pages k.0 (length u.gone) k.1;
        hidden = λ versions table. let m = k.3 versions table in (m.0, table-after a d e u.temp r new columns k.0 m.0 m.1, m.2);
        cause = update-fault a d e (length u.gone) f r.ends.counts u.room u.cause;
        counts = r.ends.counts ∙ u.cause.counts;
        found = k.2;
      }

  pub update-refused : (code : ℕ) (column : Option ℕ) (u : RefusedBeside a d old columns c s stamp goes made run code column) → EndsRun d e u.all.temp
      → UpdateIsRefused a e old pages columns c s stamp goes made code column
  update-refused code column u r = record {
    gone = u.all.gone;
    concerned = record { each = u.all.each; all = λ versions table. (u.all.ended pages versions table).concerned };
    refusal = u.refusal.0;
    first = u.refusal.1;
    told = u.refusal.2;
    grows = given-back a d e u.all.temp r old pages pages 0 (u.all.beside pages chain);
    counts = r.ends.counts ∙ u.all.cause.counts;
    hidden = λ versions table. let h = u.all.ended pages versions table in (h.now, table-after a d e u.all.temp r old columns pages h.now h.table, h.hidden);
  }

-- ---- whatever it answered

module _ (a d e : Space) (old new : Table) (columns : List Column) (c : ℕ → Bool) (s stamp : ℕ) (goes : List Value → Bool) (made : List Value → List Value) (run : Run) where
  abbrev IsDone : ℕ → Type 0
  IsDone n = UpdatedBeside a d old new columns c s stamp goes made run n

  abbrev IsLeft : ChangeError → Type 0
  IsLeft x = OnRefused (RefusedBeside a d old columns c s stamp goes made run) x × OnFault (SomeBeside a d old new columns c s stamp goes run) x

  pub run-there : (r : Result ℕ ChangeError) → IfOk r IsDone → IfErr r (OnRefused (RefusedBeside a d old columns c s stamp goes made run)) → IfErr r (OnFault (SomeBeside a d old new columns c s stamp goes run))
      → (temp : List ℕ) × IsRunChain d run temp
  run-there (Ok n) u v w = (u.temp, u.chain)
  run-there (Err (change.Refused code column)) u v w = (v.all.temp, v.all.aside.chain)
  run-there (Err (change.Fault f)) u v w = (w.temp, w.chain)

  module _ (ended : (temp : List ℕ) → IsRunChain d run temp → EndsRun d e temp) where
    pub all-updated : (r : Result ℕ ChangeError) → IfOk r IsDone → IfOk r (λ n. (pages : List ℕ) → IsChain a old pages → Updates a e old new pages columns c s stamp goes made n)
    all-updated (Ok n) u = λ pages chain. updates a d e old new columns c s stamp goes made run pages chain n u (ended u.temp u.chain)
    all-updated (Err x) u = tt

    pub all-refused : (r : Result ℕ ChangeError) → IfErr r (OnRefused (RefusedBeside a d old columns c s stamp goes made run))
        → IfErr r (OnRefused (λ code column. (pages : List ℕ) → IsChain a old pages → UpdateIsRefused a e old pages columns c s stamp goes made code column))
    all-refused (Ok n) v = tt
    all-refused (Err (change.Refused code column)) v = λ pages chain. update-refused a d e old new columns c s stamp goes made run pages chain code column v (ended v.all.temp v.all.aside.chain)
    all-refused (Err (change.Fault f)) v = tt

    pub all-failed : (r : Result ℕ ChangeError) → IfErr r (OnFault (SomeBeside a d old new columns c s stamp goes run))
        → IfErr r (OnFault (λ f. (pages : List ℕ) → IsChain a old pages → UpdatesSome a e old new pages columns c s stamp goes f))
    all-failed (Ok n) w = tt
    all-failed (Err (change.Refused code column)) w = tt
    all-failed (Err (change.Fault f)) w = λ pages chain. updates-some a d e old new columns c s stamp goes made run pages chain f w (ended w.temp w.chain)

-- ---- by the catalog, with another function that makes the same rows

module _ (a e : Space) (old new : Table) (columns : List Column) (c : ℕ → Bool) (s stamp : ℕ) (goes : List Value → Bool) (f g : List Value → List Value)
    (same : (row : List Value) → fits_columns columns row ≡ true → f row ≡ g row) where
  updates-as : (pages : List ℕ) (n : ℕ) → Updates a e old new pages columns c s stamp goes f n → Updates a e old new pages columns c s stamp goes g n
  updates-as pages n u = record {
    gone = u.gone;
    concerned = u.concerned;
    many = u.many;
    no_cause = subst (λ rows. rows_cause columns rows ≡ None) (same-made columns goes f g same u.gone u.concerned.each) u.no_cause;
    now = u.now;
    grows = u.grows;
    counts = u.counts;
    updated = λ versions table.
        let m = u.updated versions table in (
          m.0,
          m.1,
          updated-as c s stamp goes f g versions m.0
              (same-set columns goes f g same (seen_rows c s versions) (subst (AllByRecursion (Concerns columns goes)) (u.concerned.all versions table) u.concerned.each)) m.2,
        );
  }

  refused-as : (pages : List ℕ) (code : ℕ) (column : Option ℕ) → UpdateIsRefused a e old pages columns c s stamp goes f code column → UpdateIsRefused a e old pages columns c s stamp goes g code column
  refused-as pages code column u = record {
    gone = u.gone;
    concerned = u.concerned;
    refusal = u.refusal;
    first = subst (λ rows. rows_cause columns rows ≡ Some u.refusal) (same-made columns goes f g same u.gone u.concerned.each) u.first;
    told = u.told;
    grows = u.grows;
    counts = u.counts;
    hidden = u.hidden;
  }

  module _ (tables : List CatalogTable) (table : ℕ) (known : (t : CatalogTable) → slice_get tables table ≡ Some t → (old ≡ t.pages) × (columns ≡ t.columns)) where
    pub tell-updated : (r : Result ℕ ChangeError) → IfOk r (λ n. (pages : List ℕ) → IsChain a old pages → Updates a e old new pages columns c s stamp goes f n)
        → IfOk r (λ n. (t : CatalogTable) → slice_get tables table ≡ Some t → (pages : List ℕ) → IsChain a t.pages pages → Updates a e t.pages new pages t.columns c s stamp goes g n)
    tell-updated (Ok n) u = λ t is pages chain.
        let k = known t is in
        subst (λ cs. Updates a e t.pages new pages cs c s stamp goes g n) k.1
        (subst (λ o. Updates a e o new pages columns c s stamp goes g n) k.0 (updates-as pages n (u pages (subst (λ o. IsChain a o pages) (sym k.0) chain))))
    tell-updated (Err x) u = tt

    pub tell-refused : (r : Result ℕ ChangeError) → IfErr r (OnRefused (λ code column. (pages : List ℕ) → IsChain a old pages → UpdateIsRefused a e old pages columns c s stamp goes f code column))
        → IfErr r (OnRefused (λ code column. (t : CatalogTable) → slice_get tables table ≡ Some t → (pages : List ℕ) → IsChain a t.pages pages → UpdateIsRefused a e t.pages pages t.columns c s stamp goes g code column))
    tell-refused (Ok n) u = tt
    tell-refused (Err (change.Refused code column)) u = λ t is pages chain.
        let k = known t is in
        subst (λ cs. UpdateIsRefused a e t.pages pages cs c s stamp goes g code column) k.1
        (subst (λ o. UpdateIsRefused a e o pages columns c s stamp goes g code column) k.0 (refused-as pages code column (u pages (subst (λ o. IsChain a o pages) (sym k.0) chain))))
    tell-refused (Err (change.Fault x)) u = tt

    pub tell-failed : (r : Result ℕ ChangeError) → IfErr r (OnFault (λ x. (pages : List ℕ) → IsChain a old pages → UpdatesSome a e old new pages columns c s stamp goes x))
        → IfErr r (OnFault (λ x. (t : CatalogTable) → slice_get tables table ≡ Some t → (pages : List ℕ) → IsChain a t.pages pages → UpdatesSome a e t.pages new pages t.columns c s stamp goes x))
    tell-failed (Ok n) u = tt
    tell-failed (Err (change.Refused code column)) u = tt
    tell-failed (Err (change.Fault x)) u = λ t is pages chain.
        let k = known t is in
        subst (λ cs. UpdatesSome a e t.pages new pages cs c s stamp goes x) k.1
        (subst (λ o. UpdatesSome a e o new pages columns c s stamp goes x) k.0 (u pages (subst (λ o. IsChain a o pages) (sym k.0) chain)))
