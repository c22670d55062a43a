-- A `&` to a `Shell` holds nothing. Assumes `Logic`.
use mathlib.Core.List.{[], ◌∷◌}
use base.Fraction.{full_share}
use base.Fml.{fbor, ftrue}
use base.Logic.{emp, id⊢}
use types.Logic.{lfts}
use types.Kit.{‵, raw, ◌$◌, ◌∵◌, !, qed, drop, use0, updating, now, done}
use denote.Memory.{part_at, part_of}
use denote.SharingLaws.{nothing_shr_laws}
use Rattle.hg_raw.specs.contracts.shell.Shell as C
use Rattle.hg_raw.proofs.shell.Shell.TheLaw.Statement.{statement}

pub shares : statement
unfolding part_of
shares = record {
  shr_laws = λ d b o. nothing_shr_laws;
  shares = λ M 𝓤 𝓛 d κ ts b o inc sp.
      qed 𝓛 (‵ (fbor κ (part_at C.the_written full_share d b o)) ∷ raw (lfts 𝓛 ts) ∷ []) ∵ updating ! $ drop ! $ use0 𝓛 (‵ ftrue) (id⊢ 𝓤 (emp 𝓤)) $ now ! $ done !;
}
