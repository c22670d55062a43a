-- Worked limits, each by hand.
use Rattle.std.specs.Prelude.{◌≡◌}
use Rattle.hg_model.specs.Limits.{hard_limit, soft_limit, ceiling_of, cap_of, IsProper}

pub record LimitsHold : Type 0 where
  -- at most 16 frames, 13 cursors active: 48 / 52
  pub few_frames : hard_limit 16 13 ≡ 0
  -- at most 256 frames, none active
  pub defaults_hard : hard_limit 256 0 ≡ 192
  -- one active cursor counts as none does
  pub one_active : hard_limit 256 1 ≡ 192
  -- at most 256 frames, five active: 768 / 20
  pub rounded_down : hard_limit 256 5 ≡ 38
  -- 128 frames in use, four may be active
  pub defaults_soft : soft_limit 128 4 ≡ 32
  -- 18 frames in use, four may be active
  pub small_soft : soft_limit 18 4 ≡ 4
  -- at most 64 frames, one active, 16 in use
  pub ceiling_of_the_pool : ceiling_of 64 1 16 ≡ 8
  -- at most 64 frames, four active, 64 in use
  pub ceiling_of_the_limit : ceiling_of 64 4 64 ≡ 12
  -- a second page below both limits
  pub below_both : IsProper 1 5 8 2
  -- a page above the soft limit, where none can be freed
  pub at_soft : IsProper 2 0 8 2
  -- not where one can be freed
  pub at_soft_freeable : ¬ IsProper 2 1 8 2
  -- never above the ceiling
  pub at_ceiling : ¬ IsProper 8 0 8 9
  -- the soft limit 2, two hash joins and a sort: four pages
  pub cap_by_floor : cap_of 8 2 3 ≡ 4
  -- never above the ceiling
  pub cap_by_ceiling : cap_of 3 9 3 ≡ 3
