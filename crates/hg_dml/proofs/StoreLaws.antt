-- Laws of the rows of a run that are put into a table.
use Rattle.std.specs.Prelude.{◌≡◌, ℕ, suc, ◌+◌, ◌-◌, ◌<◌, ◌≤◌, nat_le, Bool, true, false, List, [], ◌∷◌, ◌++◌, length, map, drop, Option, Some, None, if◌then◌else◌}
use Rattle.std.specs.List.{AllByRecursion}
use Rattle.std.proofs.Common.{sym, ◌∙◌, ap, subst, refl, arith, inl, inr, append_assoc, length-append}
use Rattle.std.proofs.lemmas.Bool.{false≢true, cases_Bool}
use Rattle.std.proofs.lemmas.Bool.Decides.{nat_tests}
use Rattle.std.proofs.lemmas.List.{append-nil, map-append}
use Rattle.hg_base.specs.Causes.{HasCause}
use Rattle.hg_base.specs.Lines.{NoneMine, IsPath, has_page}
use Rattle.hg_base.specs.Space.{Space, NoPins, at, key_in, taken_in}
use Rattle.hg_base.specs.Steadiness.{Steady}
use Rattle.hg_base.specs.SteadyLaws.{HasCause_behind, HasCause_none}
use Rattle.hg_base.specs.TakenLaws.{key_in-apart}
use Rattle.hg_base.specs.declared.Check.{Check}
use Rattle.hg_base.specs.declared.Check.TheVariants.{Kind, Size, Frame, Link, Level, Order, RowBytes}
use Rattle.hg_base.specs.declared.File.TheVariants.{Main, Temp}
use Rattle.hg_base.specs.declared.PageId.{PageId}
use Rattle.hg_base.specs.declared.Place.{Place}
use Rattle.hg_base.specs.declared.Table.{Table}
use Rattle.hg_base.specs.declared.pages.PageFault.{PageFault}
use Rattle.hg_base.specs.declared.pages.PageFault.TheVariants as fault
use Rattle.hg_model.specs.Tables.{fits_columns}
use Rattle.hg_model.specs.declared.trees.Column.{Column}
use Rattle.hg_model.specs.declared.values.Value.{Value}
use Rattle.hg_run.specs.Calls.{temp_page, Reads, ReadFault, HasWay, NamesOneOf}
use Rattle.hg_run.specs.Layout.{pages_more}
use Rattle.hg_run.specs.RunLaws as runs
use Rattle.hg_run.specs.Runs.{IsChain as IsRunChain, IsRun, IsAt, StandsOn, first_position}
use Rattle.hg_run.specs.declared.Run.{Run}
use Rattle.hg_run.specs.declared.RunPos.{RunPos}
use Rattle.hg_table.specs.Calls.{none_mine, main_page, insert_mine, HasTable, InsertFault, IsNamed, IsPageCheck, IsVersionCheck, NamesGiven}
use Rattle.hg_table.specs.Chains.{IsChain}
use Rattle.hg_table.specs.TableLaws.{table_stays}
use Rattle.hg_value.specs.Coding.{coded, IsRowOf}
use Rattle.hg_dml.specs.Inserting.{StandsOver}
use Rattle.hg_dml.specs.Putting.{Puts, Joined}
use Rattle.hg_dml.specs.Steps.{FitRows, IsShort, OneMore}
use Rattle.hg_dml.specs.UpdateSteps.{HoldsAside, AreStorable, IsSpelled, ReadsRecord, StoresOne, IsNoRecord, FailsRecord, StoreFails, KeepsRun, StoresAll, StoresSome, LacksMain, FindsStoring}
use Rattle.hg_dml.proofs.AsideLaws.{full-count, none-none}
use Rattle.hg_dml.proofs.ChangeLaws.{page-check}
use Rattle.hg_dml.proofs.MakingLaws.{fits-length}
use Rattle.hg_dml.proofs.PutLaws.{puts-none, puts-then, puts-still, none-mine, has_page-first}

-- ---- one record

pub reads-so : (b d : Space) (run : Run) (from to : RunPos) (bytes : List ℕ) (read : Bool) → read ≡ true → Steady none_mine b d → d.taken ≡ b.taken → HasCause b d None
    → ((temp : List ℕ) → IsRunChain b run temp → StandsOn temp to.page)
    → ((rs : List (List ℕ)) (temp : List ℕ) (done rest : List (List ℕ)) → IsRun b run rs temp → IsAt temp rs from done rest → Reads read temp rs to done rest bytes) → ReadsRecord b d run from to bytes
reads-so b d run from to bytes read is steady taken cause on known = record {
  steady = steady;
  taken = taken;
  cause = cause;
  on = on;
  read = λ rs temp done rest r at. subst (λ x. Reads x temp rs to done rest bytes) is (known rs temp done rest r at);
}

pub no-record : (b : Space) (run : Run) (from to : RunPos) (bytes : List ℕ) (read : Bool) → read ≡ false
    → ((rs : List (List ℕ)) (temp : List ℕ) (done rest : List (List ℕ)) → IsRun b run rs temp → IsAt temp rs from done rest → Reads read temp rs to done rest bytes) → IsNoRecord b run from
no-record b run from to bytes read is known = λ rs temp done rest r at. subst (λ x. Reads x temp rs to done rest bytes) is (known rs temp done rest r at)

module _ (columns : List Column) (items bytes : List ℕ) (row : List Value) (taken : Bool) (same : bytes ≡ items) where
  abbrev Known : Type 0
  Known = (vs : List Value) → IsRowOf vs (length columns) bytes → fits_columns columns vs ≡ true → length bytes ≤ 1000 → (taken ≡ true) × (row ≡ vs)

  pub wrong-so : taken ≡ false → Known → (vs : List Value) → IsRowOf vs (length columns) items → fits_columns columns vs ≡ true → length items ≤ 1000 → ⊥
  wrong-so none known vs is fits short =
      false≢true (sym none ∙ (known vs (subst (IsRowOf vs (length columns)) (sym same) is) fits (subst (λ l. length l ≤ 1000) (sym same) short)).0)

  pub spelled-so : Known → IsSpelled columns items row
  spelled-so known = λ vs is fits short. (known vs (subst (IsRowOf vs (length columns)) (sym same) is) fits (subst (λ l. length l ≤ 1000) (sym same) short)).1

pub has-table-stays : (b d : Space) (t : Table) → Steady none_mine b d → (b.told ≡ true → HasTable b t) → d.told ≡ true → HasTable d t
has-table-stays b d t steady has told =
    let h = has (sym steady.told ∙ told) in
    record { columns = h.columns; pages = h.pages; versions = h.versions; table = table_stays none_mine b d t h.columns h.pages h.versions steady (none-mine h.pages) h.table }

-- ---- all of them

-- the rows that are left in the run
pub record IsLeft (d : Space) (run : Run) (at : RunPos) (temp : List ℕ) (rows done : List (List Value)) : Type 0 where
  pub rest : List (List Value)
  pub split : rows ≡ done ++ rest
  pub run_is : IsRun d run (map coded rows) temp
  pub place : IsAt temp (map coded rows) at (map coded done) (map coded rest)

-- Where the loop stands: the first rows were put into the table.
pub record StoredSoFar (b d : Space) (columns : List Column) (old now : Table) (stamp : ℕ) (run : Run) (at : RunPos) (turns : ℕ) (temp : List ℕ) (rows : List (List Value)) : Type 0 where
  pub done : List (List Value)
  pub many : length done ≡ turns
  pub pins : NoPins d
  pub told : d.told ≡ b.told
  pub limit : d.limit ≡ b.limit
  pub keeps : KeepsRun b d run temp
  pub on : StandsOn temp at.page
  pub cause : HasCause b d None
  pub puts : (pages : List ℕ) → IsChain b old pages → Puts b d old now pages stamp columns done
  pub left : d.told ≡ true → IsLeft d run at temp rows done

pub stored-none : (b : Space) (columns : List Column) (t : Table) (stamp : ℕ) (run : Run) (at : RunPos) (temp : List ℕ) (rows : List (List Value)) → NoPins b → at ≡ first_position → HoldsAside b run temp rows
    → StoredSoFar b b columns t t stamp run at 0 temp rows
stored-none b columns t stamp run at temp rows pins first h = subst (λ p. StoredSoFar b b columns t t stamp run p 0 temp rows) (sym first) (record {
  done = [];
  many = refl;
  pins = pins;
  told = refl;
  limit = refl;
  keeps = record { chain = h.chain; taken = λ x. refl };
  on = tt;
  cause = HasCause_none b b refl;
  puts = λ pages chain. puts-none b t pages stamp columns pins chain;
  left = λ told. record { rest = rows; split = refl; run_is = h.run_is told; place = runs.at_first temp (map coded rows) };
})

-- the same rows, where the space tells
pub puts-as : (b d : Space) (old new : Table) (pages : List ℕ) (stamp : ℕ) (columns : List Column) (done rows : List (List Value)) → (b.told ≡ true → done ≡ rows) → length done ≤ length rows
    → Puts b d old new pages stamp columns done → Puts b d old new pages stamp columns rows
puts-as b d old new pages stamp columns done rows same less p =
    let g = p.grows in
    record {
      now = p.now;
      grows = record { chain = g.chain; from = g.from; steady = g.steady; stays = g.stays; none_lent = g.none_lent; more = g.more; few = (let f = g.few in omega arith); owned = g.owned; temp = g.temp };
      joined = λ versions table.
          let j = p.joined versions table in
          (j.0, j.1, subst (λ rs. Joined stamp versions j.0 rs) (same table.table.told) j.2);
    }

none-insert : (t : Table) (place : Place) (temp : List ℕ) → NoneMine Temp (insert_mine t place) temp
none-insert t place [] = tt
none-insert t place (x ∷ xs) = (λ own. elim own [ inl named ↦ not-temp t.last x named | inr here ↦ key_in-apart place.page x (sym here) ], none-insert t place xs)
  where
    not-temp : (o : Option ℕ) (x : ℕ) → IsNamed o (key_in Temp x) → ⊥
    not-temp None x named = named
    not-temp (Some y) x named = key_in-apart y x (sym named)

at-there : (f : ℕ → Bool) (p q : ℕ) → (q ≡ p → ⊥) → at f p true q ≡ f q
at-there f p q apart = grind (arith, nat_tests)

first-of-map : (bytes : List ℕ) (behind : List (List ℕ)) (rest : List (List Value)) → map coded rest ≡ bytes ∷ behind
    → (r : List Value) × (more : List (List Value)) × (rest ≡ r ∷ more) × (bytes ≡ coded r) × (behind ≡ map coded more)
first-of-map bytes behind [] e = absurd (let l : 0 ≡ suc (length behind) = ap length e in omega arith)
first-of-map bytes behind (r ∷ more) e = (r, more, refl, ap (λ l. head l) (sym e), ap (drop 1) (sym e))
  where
    head : List (List ℕ) → List ℕ
    head [] = []
    head (x ∷ xs) = x

all-middle : {X : Type 0} (P : X → Type 0) (xs : List X) (x : X) (ys : List X) → AllByRecursion P (xs ++ x ∷ ys) → P x
all-middle P [] x ys h = h.0
all-middle P (y ∷ xs) x ys h = all-middle P xs x ys h.1

-- a step took no temporary page, nor gave one back
same-temp : (b d : Space) (old new : Table) (place : Place) (stamp n : ℕ) (row : List Value) → OneMore b d old new place stamp n row → (x : ℕ) → d.taken (key_in Temp x) ≡ b.taken (key_in Temp x)
same-temp b d old new place stamp n row o x = elim o.pages [
  | inl k ↦ ap (λ f. f (key_in Temp x)) k.taken
  | inr k ↦ ap (λ f. f (key_in Temp x)) k.taken ∙ at-there b.taken (key_in Main place.page) (key_in Temp x) (λ e. key_in-apart place.page x (sym e))
]

module _ (b d : Space) (columns : List Column) (old now : Table) (stamp : ℕ) (run : Run) (from : RunPos) (turns : ℕ) (temp : List ℕ) (rows : List (List Value))
    (w : StoredSoFar b d columns old now stamp run from turns temp rows) where
  -- what a step asks
  pub stored-way : HasWay d run from
  stored-way = record {
    pages = temp;
    chain = w.keeps.chain;
    on = w.on;
    position = λ told. let l = w.left told in record { rs = map coded rows; done = map coded w.done; rest = map coded l.rest; run_is = l.run_is; place = l.place };
  }

  pub stored-chain : StandsOver b old columns → (pages : List ℕ) × IsChain d now pages
  stored-chain whole = let p = w.puts whole.pages whole.chain in (p.now, p.grows.chain)

  pub stored-table : StandsOver b old columns → d.told ≡ true → HasTable d now
  stored-table whole told =
      let p = w.puts whole.pages whole.chain in
      let was = whole.whole (sym w.told ∙ told) in
      let j = p.joined was.0 was.1 in
      record { columns = length columns; pages = p.now; versions = j.0; table = j.1.table }

  looked-keeps : (e : Space) → Steady none_mine d e → e.taken ≡ d.taken → KeepsRun b e run temp
  looked-keeps e steady taken = record {
    chain = runs.chain_stays none_mine d e run temp steady (none-none temp) w.keeps.chain;
    taken = λ x. ap (λ f. f (key_in Temp x)) taken ∙ w.keeps.taken x;
  }

  -- the row that a record spells is the next of the rows
  next-row : (e : Space) (to : RunPos) (bytes : List ℕ) → ReadsRecord d e run from to bytes → AreStorable columns rows → d.told ≡ true
      → (r : List Value) × (more : List (List Value)) × (rows ≡ w.done ++ r ∷ more) × (bytes ≡ coded r) × IsAt temp (map coded rows) to (map coded w.done ++ bytes ∷ []) (map coded more)
      × IsRowOf r (length columns) bytes × (fits_columns columns r ≡ true) × (length bytes ≤ 1000)
  next-row e to bytes reads can told =
      let l = w.left told in
      let one = reads.read (map coded rows) temp (map coded w.done) (map coded l.rest) l.run_is l.place in
      let first = first-of-map bytes one.behind l.rest one.next in
      let split : rows ≡ w.done ++ first.0 ∷ first.1 = l.split ∙ ap (λ r. w.done ++ r) first.2 in
      let fits : fits_columns columns first.0 ≡ true = all-middle (λ row. fits_columns columns row ≡ true) w.done first.0 first.1 (subst (FitRows columns) split can.fit) in
      let short : IsShort first.0 = all-middle IsShort w.done first.0 first.1 (subst (AllByRecursion IsShort) split can.short) in (
        first.0,
        first.1,
        split,
        first.3,
        subst (IsAt temp (map coded rows) to (map coded w.done ++ bytes ∷ [])) first.4 one.place,
        record { storable = short.storable; count = fits-length columns first.0 fits; spelled = sym first.3 },
        fits,
        subst (λ x. length x ≤ 1000) (sym first.3) short.short,
      )

  pub stored-next : (e : Space) (to : RunPos) (new : Table) → AreStorable columns rows → StoresOne d e columns run from to now new stamp → StoredSoFar b e columns old new stamp run to (turns + 1) temp rows
  stored-next e to new can o = record {
    done = w.done ++ o.row ∷ [];
    many = let m = w.many in omega (arith, length-append w.done (o.row ∷ []));
    pins = o.puts.steady.pins_after;
    told = o.puts.steady.told ∙ o.reads.steady.told ∙ w.told;
    limit = o.puts.steady.limit ∙ o.reads.steady.limit ∙ w.limit;
    keeps = record {
      chain = runs.chain_stays (insert_mine now o.place) o.mid e run temp o.puts.steady (none-insert now o.place temp) (looked-keeps o.mid o.reads.steady o.reads.taken).chain;
      taken = λ x. same-temp o.mid e now new o.place stamp o.n o.row o.puts x ∙ (looked-keeps o.mid o.reads.steady o.reads.taken).taken x;
    };
    on = o.reads.on temp w.keeps.chain;
    cause = HasCause_behind b o.mid e None (o.reads.steady.told ∙ w.told) (HasCause_behind b d o.mid None w.told w.cause o.reads.cause) o.cause;
    puts = λ pages chain.
        puts-then b o.mid e old now new pages stamp columns o.n w.done o.row o.place o.storable.fits
        (puts-still b d o.mid old now pages stamp columns w.done (w.puts pages chain) o.reads.steady o.reads.taken) o.puts;
    left = λ told.
        let before : d.told ≡ true = sym o.reads.steady.told ∙ sym o.puts.steady.told ∙ told in
        let n = next-row o.mid to o.bytes o.reads can before in
        let same : o.row ≡ n.0 = o.spelled n.0 n.5 n.6 n.7 in
        record {
          rest = n.1;
          split = n.2 ∙ ap (λ r. w.done ++ r ∷ n.1) (sym same) ∙ sym (append_assoc w.done (o.row ∷ []) n.1);
          run_is = runs.run_stays (insert_mine now o.place) o.mid e run (map coded rows) temp o.puts.steady (none-insert now o.place temp)
              (runs.run_stays none_mine d o.mid run (map coded rows) temp o.reads.steady (none-none temp) (w.left before).run_is);
          place = subst (λ l. IsAt temp (map coded rows) to l (map coded n.1))
              (ap (λ x. map coded w.done ++ x ∷ []) (n.3 ∙ ap coded (sym same)) ∙ sym (map-append coded w.done (o.row ∷ []))) n.4;
        };
  }

  -- the step failed
  all-read : (rest : List (List Value)) → rows ≡ w.done ++ rest → rest ≡ [] → turns < length rows → ⊥
  all-read rest split none less =
      let m = w.many in
      let l : length rows ≡ length w.done = ap length (split ∙ ap (λ r. w.done ++ r) none ∙ append-nil w.done) in
      omega arith

  untold : (e : Space) (first : ℕ) (f : PageFault) → AreStorable columns rows → turns < length rows → FailsRecord d e columns run from first f → b.told ≡ false
  untold e first f can less h = elim (cases_Bool b.told) [
    | inr none ↦ none
    | inl tells ↦
        let told : d.told ≡ true = w.told ∙ tells in
        absurd (elim h.wrong [
          | inl none ↦
              let l = w.left told in
              all-read l.rest l.split (no-map l.rest (none (map coded rows) temp (map coded w.done) (map coded l.rest) l.run_is l.place)) less
          | inr bad ↦ let n = next-row e bad.to bad.bytes bad.reads can told in bad.wrong n.0 n.5 n.6 n.7
        ])
  ]
    where
      no-map : (xs : List (List Value)) → map coded xs ≡ [] → xs ≡ []
      no-map [] e = refl
      no-map (x ∷ xs) e = absurd (let l : suc (length (map coded xs)) ≡ 0 = ap length e in omega arith)

  some-done : (e : Space) (f : PageFault) → KeepsRun b e run temp → HasCause b e (Some f) → ((pages : List ℕ) → IsChain b old pages → Puts b e old now pages stamp columns w.done)
      → turns < length rows → LacksMain b (length rows) f → FindsStoring now.last temp f → StoresSome b e columns old now stamp run temp rows f
  some-done e f keeps cause puts less room found = record {
    keeps = keeps;
    cause = cause;
    done = w.done;
    few = let m = w.many in omega arith;
    puts = puts;
    room = room;
    found = found;
  }

  looked-puts : (e : Space) → Steady none_mine d e → e.taken ≡ d.taken → (pages : List ℕ) → IsChain b old pages → Puts b e old now pages stamp columns w.done
  looked-puts e steady taken pages chain = puts-still b d e old now pages stamp columns w.done (w.puts pages chain) steady taken

  read-room : (f : PageFault) → ReadFault f → LacksMain b (length rows) f
  read-room fault.MainFault h = tt
  read-room fault.TempFault h = tt
  read-room fault.MainFull h = absurd h
  read-room fault.TempFull h = absurd h
  read-room (fault.Damaged page check) h = tt

  read-finds : (f : PageFault) → ReadFault f → NamesOneOf temp f → FindsStoring now.last temp f
  read-finds fault.MainFault h named = tt
  read-finds fault.TempFault h named = tt
  read-finds fault.MainFull h named = tt
  read-finds fault.TempFull h named = tt
  read-finds (fault.Damaged page check) h named = (inr (named.0, named.1), page-check check h)

  put-room : (e : Space) (f : PageFault) → StandsOver b old columns → Steady none_mine d e → e.taken ≡ d.taken → turns < length rows → InsertFault e f → LacksMain b (length rows) f
  put-room e fault.MainFault whole steady taken less h = tt
  put-room e fault.TempFault whole steady taken less h = tt
  put-room e fault.MainFull whole steady taken less h =
      let p = looked-puts e steady taken whole.pages whole.chain in
      let few = p.grows.few in
      let m = w.many in
      let all : taken_in e Main ≡ e.limit Main = full-count e.taken Main (e.limit Main) h in
      let same : e.limit Main ≡ b.limit Main = ap (λ l. l Main) (steady.limit ∙ w.limit) in
      omega arith
  put-room e fault.TempFull whole steady taken less h = absurd h
  put-room e (fault.Damaged page check) whole steady taken less h = tt

  slot-check : (check : Check) → IsPageCheck check → IsVersionCheck check
  slot-check Kind h = tt
  slot-check Size h = tt
  slot-check Frame h = h
  slot-check Link h = h
  slot-check Level h = h
  slot-check Order h = h
  slot-check RowBytes h = absurd h

  put-finds : (e : Space) (f : PageFault) → InsertFault e f → NamesGiven now.last f → FindsStoring now.last temp f
  put-finds e fault.MainFault h named = tt
  put-finds e fault.TempFault h named = tt
  put-finds e fault.MainFull h named = tt
  put-finds e fault.TempFull h named = tt
  put-finds e (fault.Damaged page check) h named = (inl (by now.last named), slot-check check h)
    where
      by : (o : Option ℕ) → NamesGiven o (fault.Damaged page check) → (page ≡ main_page page.no) × (o ≡ Some page.no)
      by None named = absurd named
      by (Some x) named =
          let same : page.no ≡ x = ap (λ (p : PageId). p.no) named in
          (named ∙ ap main_page (sym same), ap Some (sym same))

  first-among : (first : ℕ) → run.first ≡ Some first → has_page temp first ≡ true
  first-among first is = by temp w.keeps.chain.line.path
    where
      by : (xs : List ℕ) → IsPath Temp d.next run.first xs → has_page xs first ≡ true
      by [] path = absurd (let n : ◌≡◌ {A = Option ℕ} None (Some first) = sym path ∙ is in cc)
      by (x ∷ xs) path = let same : x ≡ first = (let n : ◌≡◌ {A = Option ℕ} (Some x) (Some first) = sym path.0 ∙ is in cc) in
          subst (λ y. has_page (x ∷ xs) y ≡ true) same (has_page-first x xs)

  pub stored-stops : (e : Space) (to : RunPos) (first : ℕ) (f : PageFault) → StandsOver b old columns → AreStorable columns rows → turns < length rows → run.first ≡ Some first
      → StoreFails d e columns run from to first now f → StoresSome b e columns old now stamp run temp rows f
  stored-stops e to first f whole can less is h = elim h [
    | inl r ↦
        some-done e f (looked-keeps e r.steady r.taken) (HasCause_behind b d e (Some f) w.told w.cause r.cause) (looked-puts e r.steady r.taken) less (read-room f r.fails) (read-finds f r.fails (r.named temp w.keeps.chain))
    | inr more ↦ elim more [
      | inl r ↦
          let none : b.told ≡ false = untold e first f can less r in
          let after : HasCause b e None = HasCause_behind b d e None w.told w.cause r.cause in
          let P : PageFault → Type 0 = λ g. StoresSome b e columns old now stamp run temp rows g in
          subst P (sym r.is)
          (some-done e (fault.Damaged (temp_page first) RowBytes) (looked-keeps e r.steady r.taken) (record { later = after.later; counts = after.counts; damage = none })
          (looked-puts e r.steady r.taken) less tt (inr (refl, first-among first is), tt))
      | inr r ↦
          let keeps = looked-keeps r.mid r.reads.steady r.reads.taken in
          some-done e f
          (record { chain = runs.chain_stays none_mine r.mid e run temp r.steady (none-none temp) keeps.chain; taken = λ x. ap (λ g. g (key_in Temp x)) r.taken ∙ keeps.taken x })
          (HasCause_behind b r.mid e (Some f) (r.reads.steady.told ∙ w.told) (HasCause_behind b d r.mid None w.told w.cause r.reads.cause) r.cause)
          (λ pages chain. puts-still b r.mid e old now pages stamp columns w.done (looked-puts r.mid r.reads.steady r.reads.taken pages chain) r.steady r.taken)
          less (put-room r.mid f whole r.reads.steady r.reads.taken less r.fails) (put-finds r.mid f r.fails r.named)
    ]
  ]

  -- all were put
  pub stored-all : (count : ℕ) → length rows ≡ count → turns ≤ count → count ≤ turns → StoresAll b d columns old now stamp run temp rows
  stored-all count is within over = record {
    keeps = w.keeps;
    cause = w.cause;
    puts = λ pages chain.
        puts-as b d old now pages stamp columns w.done rows (λ told. let l = w.left (w.told ∙ told) in all-of-them l.rest l.split) (let m = w.many in omega arith) (w.puts pages chain);
  }
    where
      all-of-them : (rest : List (List Value)) → rows ≡ w.done ++ rest → w.done ≡ rows
      all-of-them [] split = sym (split ∙ append-nil w.done)
      all-of-them (r ∷ rest) split =
          absurd (let m = w.many in let l : length rows ≡ length w.done + suc (length rest) = ap length split ∙ length-append w.done (r ∷ rest) in omega arith)

no-room : (n : ℕ) → nat_le (2 + n) 0 ≡ false
no-room n = grind (arith, nat_tests)

-- a run without a page has no record
pub no-page : (b : Space) (columns : List Column) (t : Table) (stamp : ℕ) (run : Run) (temp : List ℕ) (rows : List (List Value)) → NoPins b → run.first ≡ None → HoldsAside b run temp rows
    → StoresAll b b columns t t stamp run temp rows
no-page b columns t stamp run temp rows pins is h = record {
  keeps = record { chain = h.chain; taken = λ x. refl };
  cause = HasCause_none b b refl;
  puts = λ pages chain. puts-as b b t t pages stamp columns [] rows (λ told. no-rows rows (h.run_is told)) (omega arith) (puts-none b t pages stamp columns pins chain);
}
  where
    no-temp : (xs : List ℕ) → IsPath Temp b.next run.first xs → length xs ≡ 0
    no-temp [] path = refl
    no-temp (x ∷ xs) path = absurd (let n : ◌≡◌ {A = Option ℕ} (Some x) None = sym path.0 ∙ is in cc)

    no-rows : (rs : List (List Value)) → IsRun b run (map coded rs) temp → [] ≡ rs
    no-rows [] r = refl
    no-rows (x ∷ rs) r =
        absurd (
        let pages : length temp ≡ 1 + pages_more (4080 - (2 + length (coded x))) (map length (map coded rs)) =
        r.page_count ∙ ap (λ b. if b then pages_more (0 - (2 + length (coded x))) (map length (map coded rs)) else 1 + pages_more (4080 - (2 + length (coded x))) (map length (map coded rs))) (no-room (length (coded x))) in
        let none : length temp ≡ 0 = no-temp temp r.chain.line.path in
        omega arith)
