use Rattle.hg_model.specs.Query.{query_of}
use Rattle.hg_engine.proofs.open.OpenSelect.place.Goals as goal

pub fill-requires-clause-placed : goal.fill-requires-clause-placed
fill-requires-clause-placed c =
    (c.bound_may_be_planned.ensures c.args.catalog.now (query_of c.args.self.now.select) (query_of c.place_select.new.select) c.place_select.new.tables.items c.place_select.new.places.items
    c.table_count.ensures.sound (c.in-Ok.ensures {u = tt}).ok c.requires.apart c.requires.read.tree c.requires.read.few_tables).placed

pub fill-requires-clause-tree : goal.fill-requires-clause-tree
fill-requires-clause-tree c =
    (c.bound_may_be_planned.ensures c.args.catalog.now (query_of c.args.self.now.select) (query_of c.place_select.new.select) c.place_select.new.tables.items c.place_select.new.places.items
    c.table_count.ensures.sound (c.in-Ok.ensures {u = tt}).ok c.requires.apart c.requires.read.tree c.requires.read.few_tables).tree

pub fill-requires-clause-inside : goal.fill-requires-clause-inside
fill-requires-clause-inside c =
    (c.bound_may_be_planned.ensures c.args.catalog.now (query_of c.args.self.now.select) (query_of c.place_select.new.select) c.place_select.new.tables.items c.place_select.new.places.items
    c.table_count.ensures.sound (c.in-Ok.ensures {u = tt}).ok c.requires.apart c.requires.read.tree c.requires.read.few_tables).inside
