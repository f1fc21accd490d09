use Rattle.std.proofs.Common.{refl}
use Rattle.pf_share.specs.Reduction.{share_net}
use Rattle.pf_share.proofs.Solved.{joins_within, joins_least, cuts_wide, levels_count, split_is}
use Rattle.pf_share.proofs.solving.split_of.Goals as goal

pub joins_of-requires : goal.joins_of-requires
joins_of-requires c =
    cuts_wide c.args.sharing.now (share_net c.args.sharing.now) c.args.curve.now.points c.args.curve.now.cuts refl c.requires.curve

pub levels_of-requires : goal.levels_of-requires
levels_of-requires c =
    levels_count (share_net c.args.sharing.now) c.args.curve.now.points c.points.result.now c.args.curve.now.cuts c.as_slice.result.now c.first_of-first.result
    c.requires.curve c.points.ensures.points c.first_of-first.ensures

pub groups_of-requires-clause-within : goal.groups_of-requires-clause-within
groups_of-requires-clause-within c =
    joins_within c.args.sharing.now c.args.curve.now.cuts c.args.curve.now.points c.points.result.now c.in_ok-joins.joins.items c.as_slice-2.result.now c.in_ok-joins.ensures
    c.as_slice-2.ensures.value c.points.ensures.points c.points.ensures.count

pub groups_of-requires-clause-least : goal.groups_of-requires-clause-least
groups_of-requires-clause-least c =
    joins_least c.in_ok-joins.joins.items c.as_slice.result.now c.as_slice-2.result.now c.first_of-first.result c.as_slice.ensures.value
    c.as_slice-2.ensures.value c.first_of-first.ensures

pub returns : goal.returns
returns c =
    split_is c.args.sharing.now (share_net c.args.sharing.now) c.args.curve.now.points c.args.curve.now.cuts c.new.result c.in_ok-levels.levels c.points.result.now
    c.in_ok-groups.groups c.in_ok-still.still c.in_ok-joins.joins.items c.as_slice.result.now c.as_slice-2.result.now c.first_of-first.result c.nodes.ensures.limits
    refl c.requires.curve c.requires.shape c.points.ensures.points c.in_ok-joins.ensures c.as_slice.ensures.value c.as_slice-2.ensures.value
    c.first_of-first.ensures c.in_ok-levels.ensures c.in_ok-groups.ensures c.in_ok-still.ensures.still c.in_ok-still.ensures.full c.new.ensures
