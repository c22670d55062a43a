-- A look closes a loop, or lets a row join.
use Rattle.std.specs.Prelude.{◌≡◌, ℕ, zero, suc, ◌+◌, ◌*◌, ◌<◌, ◌≤◌, Bool, true, false, List, [], ◌∷◌, ◌++◌, length, take, drop, get_or, Option, Some, None, slice_get, if◌then◌else◌, ◌⊎◌}
use Rattle.std.specs.List.{AllByRecursion}
use Rattle.std.proofs.Common.{sym, ◌∙◌, ap, subst, refl, append_assoc, append-nil, arith, length-append, inl, inr}
use Rattle.std.proofs.lemmas.Option.{slice_get_cases}
use Rattle.std.proofs.Math.Nat.{suc-mul}
use Rattle.hg_base.specs.Space.{Space}
use Rattle.hg_base.specs.Steadiness.{Steady}
use Rattle.hg_base.specs.declared.Place.{Place}
use Rattle.hg_base.specs.declared.Stamp.{Stamp}
use Rattle.hg_catalog.specs.Contents.{CatalogTable}
use Rattle.hg_expr.specs.Laws.{TableRowsFit}
use Rattle.hg_expr.specs.Over.{RowFits}
use Rattle.hg_model.specs.Tables.{fits_columns}
use Rattle.hg_model.specs.declared.values.Value.{Value}
use Rattle.hg_table.specs.Calls.{none_mine, StandsOn}
use Rattle.hg_table.specs.Chains.{IsChain}
use Rattle.hg_table.specs.Kept.{none_of}
use Rattle.hg_table.specs.Marks.{committed}
use Rattle.hg_table.specs.TableLaws.{chain_stays}
use Rattle.hg_exec.specs.Entering.{IsOnWay, IsWhole, MayJoin, Enters, begun}
use Rattle.hg_exec.specs.Joins.{Form, TableRows, joined_with, output_of, passes, rows_from, rows_with, rows_over}
use Rattle.hg_exec.specs.Standing.{entry, LoopHasLeft, OwesFrom, Owes, Each, Ascend, IsForm, IsJoined, IsOpen, IsAtWork, LoopStands}
use Rattle.hg_exec.specs.Turning.{Finds, Stepped, IfGoesOn, IfWhole, worth, looks_from, looks_left}
use Rattle.hg_exec.specs.declared.loops.Loops.{Loops}
use Rattle.hg_exec.specs.declared.loops.Step.{Step}
use Rattle.hg_exec.specs.declared.loops.Step.TheVariants as step
use Rattle.hg_exec.specs.declared.plan.OpenLoop.{OpenLoop}
use Rattle.hg_plan.specs.declared.plan.TableLoop.{TableLoop}
use Rattle.hg_exec.proofs.Joining.{Joins, row-joins, whole-row}
use Rattle.hg_exec.proofs.Opening.{all-at, drop-at, AreBefore, before-later, before-more, ascend-top, ascend-join, each-inside, each-top, each-join, each-map, has-stays, Top, owes-top, owes-join, owes-stays, worth-some, looks-top}

-- ---- the front of a row

take-front : (vs ws : List Value) (m j : ℕ) → j ≤ m → m ≤ length vs → take j (take m vs ++ ws) ≡ take j vs
take-front vs ws m zero a b = refl
take-front vs ws zero (suc j) a b = absurd (omega arith)
take-front [] ws (suc m) (suc j) a b = absurd (omega arith)
take-front (v ∷ vs) ws (suc m) (suc j) a b = ap (λ r. v ∷ r) (take-front vs ws m j (omega arith) (omega arith))

front-long : (vs ws : List Value) (m : ℕ) → m ≤ length vs → m ≤ length (take m vs ++ ws)
front-long vs ws zero b = omega arith
front-long [] ws (suc m) b = absurd (omega arith)
front-long (v ∷ vs) ws (suc m) b = let r = front-long vs ws m (omega arith) in omega arith

take-whole : (vs : List Value) → take (length vs) vs ≡ vs
take-whole [] = refl
take-whole (v ∷ vs) = ap (λ r. v ∷ r) (take-whole vs)

-- ---- a change of the space that touches no page

stands-stay : (a b : Space) (tables : List CatalogTable) (pages : ℕ → List ℕ) (ls : List TableLoop) → Steady none_mine a b
    → AllByRecursion (LoopStands a tables pages) ls → AllByRecursion (LoopStands b tables pages) ls
stands-stay a b tables pages [] steady h = tt
stands-stay a b tables pages (l ∷ ls) steady h = (
  record {
    inside = h.0.inside;
    chain = chain_stays none_mine a b (entry tables l.table).pages (pages l.table) steady (none_of (pages l.table)) h.0.chain;
    columns = h.0.columns;
  },
  stands-stay a b tables pages ls steady h.1,
)

shown-stays : (a b : Space) (c : ℕ → Bool) (n : ℕ) (tables : List CatalogTable) (pages : ℕ → List ℕ) (most : ℕ) (rows : TableRows) (ls : List TableLoop) → Steady none_mine a b
    → AllByRecursion (λ (l : TableLoop). LoopHasLeft a c n tables pages l.table None most (rows l.table)) ls
    → AllByRecursion (λ (l : TableLoop). LoopHasLeft b c n tables pages l.table None most (rows l.table)) ls
shown-stays a b c n tables pages most rows [] steady h = tt
shown-stays a b c n tables pages most rows (l ∷ ls) steady h =
    (has-stays a b c n _ _ _ None most (rows l.table) steady h.0, shown-stays a b c n tables pages most rows ls steady h.1)

-- loops that keep their snapshot and what they may read
pub record Keeps (x y : Loops) : Type 0 where
  pub snapshot : y.snapshot ≡ x.snapshot
  pub most : y.most ≡ x.most

module _ (a b : Space) (marks : List Bool) (tables : List CatalogTable) (pages : ℕ → List ℕ) (f : Form) (loops : List TableLoop) (x y : Loops)
    (steady : Steady none_mine a b) (keeps : Keeps x y) where
  -- what y owes of its open loops, with the rows of x
  abbrev OwedBy : TableRows → List (List Value) → Type 0
  OwedBy rows left = OwesFrom b (committed marks) x.snapshot.0 tables pages f rows y.joined loops y.opened.items left

  owes-made : (left left' : List (List Value)) → (h : Owes a marks tables pages f loops x left) → OwedBy h.rows left' → Owes b marks tables pages f loops y left'
  owes-made left left' h owed = record {
    rows = h.rows;
    shown = subst (λ m. AllByRecursion (λ (l : TableLoop). LoopHasLeft b (committed marks) y.snapshot.0 tables pages l.table None m (h.rows l.table)) loops) (sym keeps.most)
        (subst (λ n. AllByRecursion (λ (l : TableLoop). LoopHasLeft b (committed marks) n tables pages l.table None x.most (h.rows l.table)) loops)
        (ap (λ (t : Stamp). t.0) (sym keeps.snapshot))
        (shown-stays a b (committed marks) x.snapshot.0 tables pages x.most h.rows loops steady h.shown));
    owed = subst (λ n. OwesFrom b (committed marks) n tables pages f h.rows y.joined loops y.opened.items left') (ap (λ (t : Stamp). t.0) (sym keeps.snapshot)) owed;
  }

  work-made : (w : IsAtWork a marks tables pages f loops x)
      → Each (IsOpen tables pages f.nodes w.form.places loops y.joined) 0 loops y.opened.items → Ascend y.opened.items
      → ((left : List (List Value)) → Owes a marks tables pages f loops x left → (left' : List (List Value)) × Owes b marks tables pages f loops y left')
      → IsAtWork b marks tables pages f loops y
  work-made w each ascend owes = record {
    form = w.form;
    stand = stands-stay a b tables pages loops steady w.stand;
    each_open = each;
    ascend = ascend;
    most = subst (λ m. 0 < m) (sym keeps.most) w.most;
    owes = λ told. let o = w.owes (sym steady.told ∙ told) in owes o.0 o.1;
  }

  -- ---- the innermost loop of x
  module _ (outer : List OpenLoop) (o : OpenLoop) (l : TableLoop) (stack : x.opened.items ≡ outer ++ o ∷ []) (at : slice_get loops (length outer) ≡ Some l) where
    abbrev OpenIn : IsAtWork a marks tables pages f loops x → List Value → ℕ → TableLoop → OpenLoop → Type 0
    OpenIn w joined = IsOpen tables pages f.nodes w.form.places loops joined

    pub top-open : (w : IsAtWork a marks tables pages f loops x) → OpenIn w x.joined (0 + length outer) l o × Each (OpenIn w x.joined) 0 loops outer
    top-open w = each-top (OpenIn w x.joined) 0 loops outer o l at (subst (Each (OpenIn w x.joined) 0 loops) stack w.each_open)

    top-ascends : IsAtWork a marks tables pages f loops x → AreBefore o.start outer × Ascend outer
    top-ascends w = ascend-top outer o (subst Ascend stack w.ascend)

    pub top-owes : (left : List (List Value)) → (h : Owes a marks tables pages f loops x left)
        → Top a (committed marks) x.snapshot.0 tables pages f h.rows x.joined loops outer l o left
    top-owes left h = owes-top a (committed marks) x.snapshot.0 tables pages f h.rows x.joined loops outer o l left at
        (subst (λ os. OwesFrom a (committed marks) x.snapshot.0 tables pages f h.rows x.joined loops os left) stack h.owed)

    pub top-stands : IsAtWork a marks tables pages f loops x → LoopStands a tables pages l
    top-stands w = all-at (LoopStands a tables pages) loops (length outer) l at w.stand

    pub on-way : IsAtWork a marks tables pages f loops x → IsOnWay a (committed marks) x.snapshot.0 tables pages l.table o
    on-way w = record {
      chain = (top-stands w).chain;
      on = (top-open w).0.on;
      left = λ told. let owed = w.owes told in let t = top-owes owed.0 owed.1 in (t.rest, t.has);
    }

    -- ---- it has no row left, and is closed
    module _ (closed : y.opened.items ≡ outer) (same : y.joined ≡ x.joined) where
      closed-owes : ((left : List (List Value)) → LoopHasLeft a (committed marks) x.snapshot.0 tables pages l.table o.at o.budget left → left ≡ [])
          → IsAtWork a marks tables pages f loops x
          → (left : List (List Value)) → Owes a marks tables pages f loops x left → Owes b marks tables pages f loops y left
      closed-owes none w left h =
          let t = top-owes left h in
          let is : left ≡ t.around = t.is ∙ ap (λ r. rows_over f h.rows l (drop (suc (length outer)) loops) (take o.start x.joined) r ++ t.around) (none t.rest t.has) in
          let moved : OwesFrom b (committed marks) x.snapshot.0 tables pages f h.rows x.joined loops outer t.around =
          owes-stays a b (committed marks) x.snapshot.0 tables pages f h.rows x.joined x.joined o.start loops outer t.around steady (λ j le. refl) (top-ascends w).0 t.owed in
          owes-made left left h
          (subst (λ os. OwesFrom b (committed marks) x.snapshot.0 tables pages f h.rows y.joined loops os left) (sym closed)
          (subst (λ vs. OwesFrom b (committed marks) x.snapshot.0 tables pages f h.rows vs loops outer left) (sym same)
          (subst (OwesFrom b (committed marks) x.snapshot.0 tables pages f h.rows x.joined loops outer) (sym is) moved)))

      pub closed-work : ((left : List (List Value)) → LoopHasLeft a (committed marks) x.snapshot.0 tables pages l.table o.at o.budget left → left ≡ [])
          → IsAtWork a marks tables pages f loops x → IsAtWork b marks tables pages f loops y
      closed-work none w =
          work-made w
          (subst (Each (OpenIn w y.joined) 0 loops) (sym closed) (subst (λ vs. Each (OpenIn w vs) 0 loops outer) (sym same) (top-open w).1))
          (subst Ascend (sym closed) (top-ascends w).1)
          (λ left h. (left, closed-owes none w left h))

      pub closed-steps : ((left : List (List Value)) → LoopHasLeft a (committed marks) x.snapshot.0 tables pages l.table o.at o.budget left → left ≡ [])
          → IsAtWork a marks tables pages f loops x
          → (left : List (List Value)) → Owes a marks tables pages f loops x left → Stepped b marks tables pages f loops y left step.Again
      closed-steps none w left h = closed-owes none w left h

    -- a row that fits may join
    pub may-join : TableRowsFit → (row : List Value) (next : OpenLoop) → next.start ≡ o.start → fits_columns (entry tables l.table).columns row ≡ true
        → IsAtWork a marks tables pages f loops x → MayJoin f l (take next.start x.joined) row
    may-join law row next start fits w =
        (row-joins law tables f loops w.form (0 + length outer) l (take next.start x.joined) row (ap (slice_get loops) (let z : 0 + length outer ≡ length outer = omega arith in z) ∙ at)
        (top-stands w).columns
        (subst (λ m. IsJoined tables f.nodes w.form.places loops (0 + length outer) (take m x.joined)) (sym start) (top-open w).0.joined_before) fits).may

    -- ---- a row of it joins
    module _ (law : TableRowsFit) (row : List Value) (next : OpenLoop) (start : next.start ≡ o.start) (more : 0 < next.budget)
        (on : StandsOn (pages l.table) next.at) (fits : fits_columns (entry tables l.table).columns row ≡ true) where
      abbrev J : List Value
      J = joined_with l (take next.start x.joined) row

      joins : (w : IsAtWork a marks tables pages f loops x) → Joins tables f loops w.form (0 + length outer) l (take next.start x.joined) row
      joins w =
          row-joins law tables f loops w.form (0 + length outer) l (take next.start x.joined) row (ap (slice_get loops) (let z : 0 + length outer ≡ length outer = omega arith in z) ∙ at)
          (top-stands w).columns
          (subst (λ m. IsJoined tables f.nodes w.form.places loops (0 + length outer) (take m x.joined)) (sym start) (top-open w).0.joined_before) fits

      front : (w : IsAtWork a marks tables pages f loops x) → (j : ℕ) → j ≤ o.start → take j J ≡ take j x.joined
      front w j le =
          subst (λ m. take j (joined_with l (take m x.joined) row) ≡ take j x.joined) (sym start)
          (take-front x.joined _ o.start j le (top-open w).0.within)

      long : (w : IsAtWork a marks tables pages f loops x) → o.start ≤ length J
      long w = subst (λ m. o.start ≤ length (joined_with l (take m x.joined) row)) (sym start) (front-long x.joined _ o.start (top-open w).0.within)

      -- the loops around it, over the new row
      around-open : (w : IsAtWork a marks tables pages f loops x) → Each (OpenIn w J) 0 loops outer
      around-open w =
          each-map (OpenIn w x.joined) (OpenIn w J) o.start 0 loops outer
          (λ k m p le h. record {
            on = h.on;
            more = h.more;
            within = let a = long w in omega arith;
            joined_before = subst (IsJoined tables f.nodes w.form.places loops k) (sym (front w p.start le)) h.joined_before;
          })
          (top-ascends w).0 (top-open w).1

      next-open : (w : IsAtWork a marks tables pages f loops x) → OpenIn w J (0 + length outer) l next
      next-open w = record {
        on = on;
        more = more;
        within = let a = long w in let e = start in omega arith;
        joined_before = subst (IsJoined tables f.nodes w.form.places loops (0 + length outer))
            (sym (ap (λ m. take m J) start ∙ front w o.start (omega arith))) (top-open w).0.joined_before;
      }

      held-open : (w : IsAtWork a marks tables pages f loops x) → Each (OpenIn w J) 0 loops (outer ++ next ∷ [])
      held-open w = each-join (OpenIn w J) 0 loops outer next l at (around-open w) (next-open w)

      before-next : IsAtWork a marks tables pages f loops x → AreBefore next.start outer
      before-next w = subst (λ m. AreBefore m outer) (sym start) (top-ascends w).0

      held-ascends : IsAtWork a marks tables pages f loops x → Ascend (outer ++ next ∷ [])
      held-ascends w = ascend-join outer next (before-next w) (top-ascends w).1

      -- what the row gives is owed before the rest
      record Parts (rows : TableRows) (left : List (List Value)) : Type 0 where
        pub rest : List (List Value)
        pub is : left ≡ rows_with f rows l (drop (suc (length outer)) loops) (take next.start x.joined) row ++ rest
        pub owed : OwesFrom b (committed marks) x.snapshot.0 tables pages f rows J loops (outer ++ next ∷ []) rest

      parts : ((left : List (List Value)) → LoopHasLeft a (committed marks) x.snapshot.0 tables pages l.table o.at o.budget left
          → Finds b (committed marks) x.snapshot.0 (entry tables l.table).pages (entry tables l.table).columns (pages l.table) left row next)
          → IsAtWork a marks tables pages f loops x
          → (left : List (List Value)) → (h : Owes a marks tables pages f loops x left) → Parts h.rows left
      parts finds w left h =
          let t = top-owes left h in
          let found = finds t.rest t.has in
          let inner = drop (suc (length outer)) loops in
          let vs = take next.start x.joined in
          let here = rows_with f h.rows l inner vs row in
          let later = rows_over f h.rows l inner vs found.rest in
          let begin : take next.start J ≡ vs = ap (λ m. take m J) start ∙ front w o.start (omega arith) ∙ ap (λ m. take m x.joined) (sym start) in
          let around : OwesFrom b (committed marks) x.snapshot.0 tables pages f h.rows J loops outer t.around =
          owes-stays a b (committed marks) x.snapshot.0 tables pages f h.rows x.joined J o.start loops outer t.around steady (front w) (top-ascends w).0 t.owed in
          record {
            rest = later ++ t.around;
            is = t.is
                ∙ ap (λ m. rows_over f h.rows l inner (take m x.joined) t.rest ++ t.around) (sym start)
                ∙ ap (λ r. rows_over f h.rows l inner vs r ++ t.around) found.is
                ∙ append_assoc here later t.around;
            owed = subst (λ us. OwesFrom b (committed marks) x.snapshot.0 tables pages f h.rows J loops (outer ++ next ∷ []) (rows_over f h.rows l inner us found.rest ++ t.around)) begin
                (owes-join b (committed marks) x.snapshot.0 tables pages f h.rows J loops outer next l found.rest t.around at around found.stands);
          }

      module _ (finds : (left : List (List Value)) → LoopHasLeft a (committed marks) x.snapshot.0 tables pages l.table o.at o.budget left
          → Finds b (committed marks) x.snapshot.0 (entry tables l.table).pages (entry tables l.table).columns (pages l.table) left row next)
          (w : IsAtWork a marks tables pages f loops x) (same : y.joined ≡ J) where
        abbrev inner : List TableLoop
        inner = drop (suc (length outer)) loops

        given : (rows : TableRows) (t : Bool) → passes f l.tests.items J ≡ t
            → rows_with f rows l inner (take next.start x.joined) row ≡ (if t then rows_from f rows inner J else [])
        given rows t p = ap (λ u. if u then rows_from f rows inner J else []) p

        owed-in-y : (rows : TableRows) (os : List OpenLoop) (left : List (List Value)) → y.opened.items ≡ os
            → OwesFrom b (committed marks) x.snapshot.0 tables pages f rows J loops os left → OwedBy rows left
        owed-in-y rows os left e h =
            subst (λ us. OwesFrom b (committed marks) x.snapshot.0 tables pages f rows y.joined loops us left) (sym e)
            (subst (λ vs. OwesFrom b (committed marks) x.snapshot.0 tables pages f rows vs loops os left) (sym same) h)

        open-in-y : (os : List OpenLoop) → y.opened.items ≡ os → Each (OpenIn w J) 0 loops os → Each (OpenIn w y.joined) 0 loops y.opened.items
        open-in-y os e h = subst (Each (OpenIn w y.joined) 0 loops) (sym e) (subst (λ vs. Each (OpenIn w vs) 0 loops os) (sym same) h)

        -- the row is let go
        module _ (let_go : passes f l.tests.items J ≡ false) (there_now : y.opened.items ≡ outer ++ next ∷ []) where
          pub gone-owes : (left : List (List Value)) → Owes a marks tables pages f loops x left → Owes b marks tables pages f loops y left
          gone-owes left h =
              let p = parts finds w left h in
              let is : left ≡ p.rest = p.is ∙ ap (λ r. r ++ p.rest) (given h.rows false let_go) in
              owes-made left left h (owed-in-y h.rows (outer ++ next ∷ []) left there_now
              (subst (OwesFrom b (committed marks) x.snapshot.0 tables pages f h.rows J loops (outer ++ next ∷ [])) (sym is) p.owed))

          pub gone-work : IsAtWork b marks tables pages f loops y
          gone-work = work-made w (open-in-y (outer ++ next ∷ []) there_now (held-open w)) (subst Ascend (sym there_now) (held-ascends w)) (λ left h. (left, gone-owes left h))

        -- the row is whole, and given
        module _ (kept : passes f l.tests.items J ≡ true) (last : suc (length outer) ≡ length loops) (there_now : y.opened.items ≡ outer ++ next ∷ []) where
          none-inside : inner ≡ []
          none-inside = ap (λ n. drop n loops) last ∙ drop-all loops
            where
              drop-all : (ls : List TableLoop) → drop (length ls) ls ≡ []
              drop-all [] = refl
              drop-all (m ∷ ls) = drop-all ls

          pub given-owes : (left : List (List Value)) → Owes a marks tables pages f loops x left
              → (rest : List (List Value)) × (left ≡ output_of f y.joined ∷ rest) × Owes b marks tables pages f loops y rest
          given-owes left h =
              let p = parts finds w left h in
              let is : left ≡ output_of f J ∷ p.rest =
              p.is ∙ ap (λ r. r ++ p.rest) (given h.rows true kept) ∙ ap (λ ls. rows_from f h.rows ls J ++ p.rest) none-inside in (
                p.rest,
                is ∙ ap (λ vs. output_of f vs ∷ p.rest) (sym same),
                owes-made left p.rest h (owed-in-y h.rows (outer ++ next ∷ []) p.rest there_now p.owed),
              )

          pub given-work : IsAtWork b marks tables pages f loops y
          given-work =
              work-made w (open-in-y (outer ++ next ∷ []) there_now (held-open w)) (subst Ascend (sym there_now) (held-ascends w))
              (λ left h. let g = given-owes left h in (g.0, g.2))

          pub given-whole : IsWhole f y.joined
          given-whole =
              let count : suc (0 + length outer) ≡ length loops = let e = last in omega arith in
              subst (IsWhole f) (sym same) (whole-row tables f loops w.form (suc (0 + length outer)) J (joins w).joined count (joins w).fits)

        -- the loop inside is opened
        module _ (kept : passes f l.tests.items J ≡ true) (deeper : suc (length outer) < length loops)
            (there_now : y.opened.items ≡ (outer ++ next ∷ []) ++ begun x.most (length J) ∷ []) where
          abbrev around : List OpenLoop
          around = outer ++ next ∷ []

          depth : length around ≡ suc (length outer)
          depth = length-append outer (next ∷ []) ∙ omega arith

          -- the loop inside
          second : (l' : TableLoop) × (slice_get loops (suc (length outer)) ≡ Some l')
          second = here (slice_get_cases loops (suc (length outer))).1
            where
              here : ((l' : TableLoop) × (suc (length outer) < length loops) × (slice_get loops (suc (length outer)) ≡ Some l') × (get_or loops (suc (length outer)) l' ≡ l'))
                  ⊎ ((length loops ≤ suc (length outer)) × (slice_get loops (suc (length outer)) ≡ None))
                  → (l' : TableLoop) × (slice_get loops (suc (length outer)) ≡ Some l')
              here (inl h) = (h.0, h.2)
              here (inr h) = absurd (let d = deeper in let e = h.0 in omega arith)

          there : slice_get loops (length around) ≡ Some second.0
          there = ap (slice_get loops) depth ∙ second.1

          start-in : AreBefore (length J) around
          start-in = before-more (length J) outer next (before-later o.start (length J) outer (long w) (top-ascends w).0)
              (let a = long w in let e = start in omega arith)

          pub begun-owes : (left : List (List Value)) → Owes a marks tables pages f loops x left → Owes b marks tables pages f loops y left
          begun-owes left h =
              let p = parts finds w left h in
              let l' = second.0 in
              let rows = h.rows l'.table in
              let ls = drop (suc (suc (length outer))) loops in
              let is : left ≡ rows_over f h.rows l' ls J rows ++ p.rest =
              p.is ∙ ap (λ r. r ++ p.rest) (given h.rows true kept) ∙ ap (λ ms. rows_from f h.rows ms J ++ p.rest) (drop-at loops (suc (length outer)) l' second.1) in
              let has : LoopHasLeft b (committed marks) x.snapshot.0 tables pages l'.table None x.most rows =
              all-at (λ (m : TableLoop). LoopHasLeft b (committed marks) x.snapshot.0 tables pages m.table None x.most (h.rows m.table)) loops (suc (length outer)) l' second.1
              (shown-stays a b (committed marks) x.snapshot.0 tables pages x.most h.rows loops steady h.shown) in
              let joined = owes-join b (committed marks) x.snapshot.0 tables pages f h.rows J loops around (begun x.most (length J)) l' rows p.rest there p.owed has in
              let same-list : rows_over f h.rows l' (drop (suc (length around)) loops) (take (length J) J) rows ++ p.rest ≡ left =
              ap (λ n. rows_over f h.rows l' (drop (suc n) loops) (take (length J) J) rows ++ p.rest) depth
              ∙ ap (λ vs. rows_over f h.rows l' ls vs rows ++ p.rest) (take-whole J) ∙ sym is in
              owes-made left left h (owed-in-y h.rows (around ++ begun x.most (length J) ∷ []) left there_now
              (subst (OwesFrom b (committed marks) x.snapshot.0 tables pages f h.rows J loops (around ++ begun x.most (length J) ∷ [])) same-list joined))

          begun-open : Each (OpenIn w J) 0 loops (around ++ begun x.most (length J) ∷ [])
          begun-open =
              let l' = second.0 in
              let k : suc (0 + length outer) ≡ 0 + length around = let d = depth in omega arith in
              each-join (OpenIn w J) 0 loops around (begun x.most (length J)) l' there (held-open w)
              (record {
                on = tt;
                more = w.most;
                within = omega arith;
                joined_before = subst (λ n. IsJoined tables f.nodes w.form.places loops n (take (length J) J)) k
                    (subst (IsJoined tables f.nodes w.form.places loops (suc (0 + length outer))) (sym (take-whole J)) (joins w).joined);
              })

          pub begun-work : IsAtWork b marks tables pages f loops y
          begun-work =
              work-made w (open-in-y (around ++ begun x.most (length J) ∷ []) there_now begun-open)
              (subst Ascend (sym there_now) (ascend-join around (begun x.most (length J)) start-in (held-ascends w)))
              (λ left h. (left, begun-owes left h))

        -- ---- whatever became of it

        pub entered-work : (s : Step) → Enters f loops x.most l outer next J y.opened.items s → IfGoesOn s (IsAtWork b marks tables pages f loops y)
        entered-work step.Again (inl h) = gone-work h.0 h.1
        entered-work step.Again (inr h) = begun-work h.0 h.1 h.2
        entered-work step.Row h = given-work h.0 h.1 h.2
        entered-work step.End h = absurd h
        entered-work (step.Fault e) h = absurd h

        pub entered-owes : (s : Step) → Enters f loops x.most l outer next J y.opened.items s
            → (left : List (List Value)) → Owes a marks tables pages f loops x left → Stepped b marks tables pages f loops y left s
        entered-owes step.Again (inl h) = gone-owes h.0 h.1
        entered-owes step.Again (inr h) = begun-owes h.0 h.1 h.2
        entered-owes step.Row h = given-owes h.0 h.1 h.2
        entered-owes step.End h = absurd h
        entered-owes (step.Fault e) h = absurd h

        pub entered-whole : (s : Step) → Enters f loops x.most l outer next J y.opened.items s → IfWhole s (IsWhole f y.joined)
        entered-whole step.Again h = tt
        entered-whole step.Row h = given-whole h.0 h.1 h.2
        entered-whole step.End h = absurd h
        entered-whole (step.Fault e) h = absurd h
