-- POOL is a step of the plain machine.
use Rattle.std.specs.Prelude.{◌≡◌, ℕ, ◌≤◌, false, List, [], ◌∷◌, Some, None}
use Rattle.std.proofs.Common.{sym, ◌∙◌, ap, subst, refl, arith}
use Rattle.hg_base.specs.Space.{Space, NoPins, IsSame}
use Rattle.hg_base.specs.Causes.{Later, HasCause, PinFault}
use Rattle.hg_base.specs.Steadiness.{Steady}
use Rattle.hg_base.specs.SteadyLaws.{Steady_refused, main_failed, temp_failed}
use Rattle.hg_base.specs.declared.File.TheVariants.{Main, Temp}
use Rattle.hg_base.specs.declared.pages.PageFault.{PageFault}
use Rattle.hg_base.specs.declared.pages.PageFault.TheVariants as fault
use Rattle.hg_machine.specs.Plain.Licences.{device_failed}
use Rattle.hg_machine.specs.Plain.Pool.{SetsPool, made, failed}
use Rattle.hg_machine.specs.Plain.Replies.{pool_set}
use Rattle.hg_machine.specs.Plain.State.{State}
use Rattle.hg_model.specs.Statements.{Pool}
use Rattle.hg_pool.specs.Resizing.{with_current}
use Rattle.hg_reply.specs.Steps.{BeginsSo}
use Rattle.hg_table.specs.Calls.{none_mine, TakesNone}
use Rattle.hg_engine.specs.Standing.{LeftStands, nothing_left, state_of}
use Rattle.hg_engine.specs.Stepping.{TablesAre, StepsTo, IsSameSpace, TurnFault, line_of, work_in}
use Rattle.hg_engine.specs.declared.tables.Tables.{Tables}
use Rattle.hg_engine.proofs.PageLaws.{few-still, none-lent-still}
use Rattle.hg_engine.proofs.StandLaws.{tables-stay, stays-still, stays-resized}
use Rattle.hg_engine.proofs.CreateLaws.{begins-same, kept, no-work}
use Rattle.hg_engine.proofs.TurnLaws.{state-still, dropped-is}
use Rattle.hg_machine.specs.Plain.Run.{dropped}

module _ (a : Space) (x : Tables) (n : ℕ) (texts : List ℕ) (idle : x.is_open ≡ false) where
  idle-is : (before : State) (st : TablesAre a x before) → before ≡ state_of a x.max x.mpl x.stamps None st.tables st.left
  idle-is before st = st.is ∙ ap (λ c. state_of a x.max x.mpl x.stamps c st.tables st.left) (no-work x.is_open x.open idle)

  resized : StepsTo a (with_current a n) x x (BeginsSo a.told (Pool n) texts) (pool_set n ∷ [])
  resized = record {
    to = λ before st.
        let after : State = state_of (with_current a n) x.max x.mpl x.stamps None st.tables nothing_left in (
          after,
          kept (with_current a n) x None after x.max x.mpl x.catalog x.stamps refl refl (no-work x.is_open x.open idle) refl refl (record {
            pins = record { none_out = st.pins.none_out; not_pinned = st.pins.not_pinned };
            none_lent = st.none_lent;
            most = st.most;
            some_may = st.some_may;
            few_temp = st.few_temp;
            no_indexes = st.no_indexes;
            tables = st.tables;
            pages = st.pages;
            stand = tables-stay a (with_current a n) x.stamps x.catalog.tables st.tables st.pages (λ k. stays-resized a n (st.pages k)) st.stand;
            left = nothing_left;
            stands = tt;
            is = refl;
          }),
          begins-same a.told (Pool n) texts before after (pool_set n ∷ []) (subst (λ s. SetsPool s n (pool_set n ∷ []) after) (sym (idle-is before st)) (made refl refl)),
        );
  }

  pub pool-made : (b : Space) → b ≡ with_current a n → StepsTo a b x x (BeginsSo a.told (Pool n) texts) (pool_set n ∷ [])
  pool-made b is = subst (λ s. StepsTo a s x x (BeginsSo a.told (Pool n) texts) (pool_set n ∷ [])) (sym is) resized

  -- a device failed
  pub pool-failed : (b : Space) (f : PageFault) → Steady none_mine a b → TakesNone a b → PinFault f → StepsTo a b x x (BeginsSo a.told (Pool n) texts) (line_of f ∷ [])
  pool-failed b f steady none is = record {
    to = λ before st. (
      before,
      record {
        pins = steady.pins_after;
        none_lent = none-lent-still a b steady st.none_lent;
        most = steady.most ∙ st.most;
        some_may = st.some_may;
        few_temp = few-still a b steady.limit st.few_temp;
        no_indexes = st.no_indexes;
        tables = st.tables;
        pages = st.pages;
        stand = tables-stay a b x.stamps x.catalog.tables st.tables st.pages (λ k. stays-still a b (st.pages k) steady) st.stand;
        left = st.left;
        stands = subst (λ c. LeftStands b x.stamps x.catalog.tables st.pages c st.left) (sym (no-work x.is_open x.open idle)) tt;
        is = st.is ∙ sym (state-still a b x.max x.mpl x.stamps (work_in x.is_open x.open) st.tables st.left steady none);
      },
      by-cause f before is,
    );
  }
    where
      by-cause : (f : PageFault) (before : State) → PinFault f → BeginsSo a.told (Pool n) texts before (line_of f ∷ []) before
      by-cause fault.MainFault before is = begins-same a.told (Pool n) texts before before (line_of fault.MainFault ∷ []) (failed (line_of fault.MainFault) (device_failed Main refl) refl refl)
      by-cause fault.TempFault before is = begins-same a.told (Pool n) texts before before (line_of fault.TempFault ∷ []) (failed (line_of fault.TempFault) (device_failed Temp refl) refl refl)
      by-cause fault.MainFull before is = absurd is
      by-cause fault.TempFull before is = absurd is
      by-cause (fault.Damaged page check) before is = absurd is

-- a call that was refused changed nothing but counts
pub still : (a b : Space) → NoPins a → IsSame a b → Later a.counts b.counts → Steady none_mine a b × TakesNone a b
still a b pins same later = (Steady_refused none_mine a b pins same later, record { taken = ap (λ (s : Space). s.taken) same.after })

-- why, as it is counted
pub pool-cause : (a b : Space) (f : PageFault) → PinFault f → HasCause a b (Some f) → TurnFault a b f
pool-cause a b fault.MainFault is cause = main_failed a b cause
pool-cause a b fault.TempFault is cause = temp_failed a b cause
pool-cause a b fault.MainFull is cause = is
pool-cause a b fault.TempFull is cause = is
pool-cause a b (fault.Damaged page check) is cause = absurd is

-- the command at work is dropped
pub drops : (s : Space) (x y : Tables) → y.catalog ≡ x.catalog → y.stamps ≡ x.stamps → y.is_open ≡ false → y.max ≡ x.max → y.mpl ≡ x.mpl
    → (before : State) → TablesAre s x before → TablesAre s y (dropped before)
drops s x y catalog stamps idle max mpl before st =
    let rest : State = state_of s x.max x.mpl x.stamps None st.tables nothing_left in
    let is : dropped before ≡ rest = ap dropped st.is ∙ dropped-is s x.max x.mpl x.stamps (work_in x.is_open x.open) st.tables st.left in
    subst (TablesAre s y) (sym is) (kept s y None rest x.max x.mpl x.catalog x.stamps catalog stamps (no-work y.is_open y.open idle) max mpl (record {
      pins = st.pins;
      none_lent = st.none_lent;
      most = st.most;
      some_may = st.some_may;
      few_temp = st.few_temp;
      no_indexes = st.no_indexes;
      tables = st.tables;
      pages = st.pages;
      stand = st.stand;
      left = nothing_left;
      stands = tt;
      is = refl;
    }))

-- as many frames are reserved as the pool may have
pub reserved : (s : Space) (x : Tables) (n : ℕ) (state : State) → TablesAre s x state → n ≤ x.max → n ≤ s.heaps.most
reserved s x n state st few = let m = st.most in omega (arith, m, few)

-- another number of frames changes nothing else of the space
pub resized-same : (a b : Space) (n : ℕ) → b ≡ with_current a n → NoPins a → Later a.counts b.counts → IsSameSpace a b
resized-same a b n is pins later = record {
  told = ap (λ (s : Space). s.told) is;
  limit = ap (λ (s : Space). s.limit) is;
  device_limit = ap (λ (s : Space). s.device_limit) is;
  pins = subst NoPins (sym is) (record { none_out = pins.none_out; not_pinned = pins.not_pinned });
  later = later;
}
