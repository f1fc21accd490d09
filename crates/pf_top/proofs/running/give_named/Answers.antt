use Rattle.pf_top.proofs.running.give_named.Goals as goal

pub returns-in-Curve : goal.returns-in-Curve
returns-in-Curve g c = rw c.in-Curve.is c.give.ensures

pub returns-in-Closure : goal.returns-in-Closure
returns-in-Closure g c = rw c.in-Closure.is c.give-in-Closure.ensures

pub returns-in-Densest : goal.returns-in-Densest
returns-in-Densest g c = rw c.in-Densest.is c.give-in-Densest.ensures

pub returns-in-Strength : goal.returns-in-Strength
returns-in-Strength g c = rw c.in-Strength.is c.give-in-Strength.ensures

pub returns-in-Select : goal.returns-in-Select
returns-in-Select g c = rw c.in-Select.is c.give-in-Select.ensures

pub returns-in-Partition : goal.returns-in-Partition
returns-in-Partition g c = rw c.in-Partition.is c.give-in-Partition.ensures

pub returns-in-Share : goal.returns-in-Share
returns-in-Share g c = rw c.in-Share.is c.give-in-Share.ensures
