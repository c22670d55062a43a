use Rattle.hg_model.specs.Scope.{scope_of}
use Rattle.hg_bind.proofs.Placing.{columns_have_places}
use Rattle.hg_bind.proofs.Positions.{place_is, keys_alike}
use Rattle.hg_bind.proofs.laws.places_are_positions.Goals as goal

pub returns : goal.returns
returns c = record { places = λ tables q position few h. place_is tables q.tables few position h; keys = keys_alike; columns = columns_have_places }
