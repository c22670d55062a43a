-- The commands whose first word is no reserved word, by the token that comes next.
use Rattle.std.specs.Prelude.{List, None, codes, if◌then◌else◌}
use Rattle.hg_model.specs.Tokens.{Token}
use Rattle.hg_parse.specs.Building.{Builder}
use Rattle.hg_parse.specs.Descent.{key, name}
use Rattle.hg_parse.specs.Rules.{Form, StartForm, WorkForm, FetchForm, CloseForm, VacuumForm, PoolForm, MplForm, MemoryForm, number, open_for, of_name, of_number, of_both}
use Rattle.hg_parse.specs.Steps.{Answer, got, and_then, eats, behind, after}

module _ {S : Type 0} (b : Builder S) where
  abbrev pub soft_steps : S → List Token → Answer S Form
  soft_steps s ts =
      if eats (key (codes "open")) ts then and_then (name s (behind ts)) (open_for b)
      else if eats (key (codes "start")) ts then and_then (name s (behind ts)) (of_both b StartForm)
      else if eats (key (codes "work")) ts then and_then (number s (behind ts)) (of_number b WorkForm)
      else if eats (key (codes "fetch")) ts then and_then (name s (behind ts)) (of_both b FetchForm)
      else if eats (key (codes "close")) ts then and_then (name s (behind ts)) (of_name b CloseForm)
      else if eats (key (codes "vacuum")) ts then and_then (name s (behind ts)) (of_name b VacuumForm)
      else if eats (key (codes "pool")) ts then and_then (number s (behind ts)) (of_number b PoolForm)
      else if eats (key (codes "mpl")) ts then and_then (number s (behind ts)) (of_number b MplForm)
      else if eats (key (codes "show")) ts then after (key (codes "memory")) (behind ts) (λ us. got s MemoryForm us)
      else None
