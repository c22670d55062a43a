-- What is left of a vector whose bytes are given out.
use Rattle.std.specs.Prelude.{◌≡◌, ℕ, ◌*◌, ◌^◌, ◌<◌, ◌≤◌, List, [], ◌∷◌}
use mir.Val.{Val, vstruct, vcons, vnil}
use base.Fml.{Fml, fsep, fex, feq, flt}
use denote.RattleType.{RattleType}
use denote.Builtin.{u8}
use denote.RawPtr.{Ptr}
use denote.Struct.Struct.{Struct}
use denote.Struct.Owning.{shape}
use Rattle.std_alloc.specs.declared.vec.Vec.{Vec}
use Rattle.std_alloc.specs.contracts.vec.Vec as vec
use Rattle.std.specs.declared.alloc.Global.{Global}
use Rattle.std.specs.contracts.alloc.Global as global
use Rattle.std.specs.contracts.impls.GlobalAllocator.TheImpl.{ghosts}
use Rattle.hg_raw.specs.Memory.{lease_own}

-- where the block begins, and for how many frames it is
pub record ShellSeen : Type 0 where
  pub base : Ptr
  pub frames : ℕ

-- a vector's words: its pointer, length, capacity and allocator
abbrev pub VecWords : RattleType
VecWords = Struct (shape (vec.the_type u8 global.the_row ghosts))

abbrev pub words_own : Vec ℕ Global → List Val → Fml
words_own v vs = VecWords.own_val (v.ptr, (v.len, (v.cap, (v.alloc, tt)))) vs

-- a vector of that block: its own bytes are the words of the frames, and its spare room begins with their pages
abbrev pub IsShell : ShellSeen → Vec ℕ Global → Type 0
IsShell d v = (v.ptr ≡ d.base) × (v.len ≡ 8 * d.frames) × (4104 * d.frames ≤ v.cap) × (0 < v.cap)

abbrev pub shell_val : Val → Val
shell_val w = vstruct (vcons w vnil)

abbrev pub left_own : ShellSeen → Vec ℕ Global → Val → Fml
left_own d v w = fsep (words_own v (w ∷ [])) (fsep (flt (v.cap * 1) (2 ^ 63)) (lease_own (ghosts.dealloc_token v.alloc) v.ptr (4104 * d.frames) v.cap))

abbrev pub shell_own : ShellSeen → List Val → Fml
shell_own d vs = fex (Vec ℕ Global) (λ v. fex (IsShell d v) (λ _. fex Val (λ w. fsep (feq (List Val) vs (shell_val w ∷ [])) (left_own d v w))))
