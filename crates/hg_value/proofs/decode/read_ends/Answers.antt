use Rattle.std.proofs.Common.{arith, subst, ◌≡◌}
use Rattle.hg_value.proofs.Reading.{read_none, read_more, read_length, none_there, found_by, none_by}
use Rattle.hg_value.specs.RowParts.{HasRead}
use Rattle.hg_value.proofs.decode.read_ends.Goals as goal
use Rattle.hg_value.proofs.decode.read_ends.Goals.{After-is_empty}

pub loop-place-init : goal.loop-place-init
loop-place-init c = read_none c.args.bytes.now c.args.ends.now c.requires.empty

pub overflow_sub-bytes : goal.overflow_sub-bytes
overflow_sub-bytes c =
    let r = read_length c.args.bytes.now c.loop-place.rest.now c.loop-place.ends c.loop-place._place c.loop-place.invariant in
    omega (arith, r.0, c.split_at.ensures.back_len)

pub push-requires : goal.push-requires
push-requires c =
    let r = read_length c.args.bytes.now c.loop-place.rest.now c.loop-place.ends c.loop-place._place c.loop-place.invariant in
    omega (arith, r.1)

pub returns-in-None-clause-none : goal.returns-in-None-clause-none
returns-in-None-clause-none c =
    none_there c.args.bytes.now c.loop-place.rest.now c.loop-place.ends c.loop-place._place c.args.n c.loop-place.invariant (omega arith) c.in-None.ensures

pub loop-place-preserved : goal.loop-place-preserved
loop-place-preserved c =
    read_more c.args.bytes.now c.loop-place.rest.now c.loop-place.ends c.split_at.result.1.now c.push.new.self c.loop-place._place c.in-Some.size
    c.loop-place.invariant c.in-Some.ensures c.split_at.ensures.back c.push.ensures

all_read : (c : After-is_empty) → HasRead c.args.bytes.now c.loop-place.rest.now c.loop-place.ends c.args.n
all_read c =
    let k : c.loop-place._place ≡ c.args.n = omega arith in
    subst (HasRead c.args.bytes.now c.loop-place.rest.now c.loop-place.ends) k c.loop-place.invariant

pub returns-clause-found : goal.returns-clause-found
returns-clause-found c =
    found_by c.args.bytes.now c.loop-place.rest.now c.loop-place.ends c.args.n c.is_empty.result c.requires.few c.requires.short (all_read c) c.is_empty.ensures

pub returns-clause-none : goal.returns-clause-none
returns-clause-none c =
    none_by c.args.bytes.now c.loop-place.rest.now c.loop-place.ends c.args.n c.is_empty.result (all_read c) c.is_empty.ensures
