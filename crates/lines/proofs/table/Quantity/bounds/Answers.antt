-- `Quantity::bounds` meets its contract. Assumes nothing.
use Rattle.lines.specs.Table.{limit_for}
use Rattle.lines.proofs.Rows.{limit_at}
use Rattle.lines.proofs.table.Quantity.bounds.Goals as goal

pub returns-in-Mask : goal.returns-in-Mask
unfolding limit_for
returns-in-Mask c = limit_at _ _ c.in-Mask.is cc

pub returns-in-Sender : goal.returns-in-Sender
unfolding limit_for
returns-in-Sender c = limit_at _ _ c.in-Sender.is cc

pub returns-in-RunNumber : goal.returns-in-RunNumber
unfolding limit_for
returns-in-RunNumber c = limit_at _ _ c.in-RunNumber.is cc

pub returns-in-Round : goal.returns-in-Round
unfolding limit_for
returns-in-Round c = limit_at _ _ c.in-Round.is cc

pub returns-in-State : goal.returns-in-State
unfolding limit_for
returns-in-State c = limit_at _ _ c.in-State.is cc

pub returns-in-Base : goal.returns-in-Base
unfolding limit_for
returns-in-Base c = limit_at _ _ c.in-Base.is cc

pub returns-in-Raw : goal.returns-in-Raw
unfolding limit_for
returns-in-Raw c = limit_at _ _ c.in-Raw.is cc

pub returns-in-X : goal.returns-in-X
unfolding limit_for
returns-in-X c = limit_at _ _ c.in-X.is c.made-in-X.ensures

pub returns-in-Variance : goal.returns-in-Variance
unfolding limit_for
returns-in-Variance c = limit_at _ _ c.in-Variance.is c.made-in-Variance.ensures

pub returns-in-Target : goal.returns-in-Target
unfolding limit_for
returns-in-Target c = limit_at _ _ c.in-Target.is c.made-in-Target.ensures

pub returns-in-Number : goal.returns-in-Number
unfolding limit_for
returns-in-Number c = limit_at _ _ c.in-Number.is cc

pub returns-in-Controllers : goal.returns-in-Controllers
unfolding limit_for
returns-in-Controllers c = limit_at _ _ c.in-Controllers.is cc

pub returns-in-Runs : goal.returns-in-Runs
unfolding limit_for
returns-in-Runs c = limit_at _ _ c.in-Runs.is cc

pub returns-in-Noise : goal.returns-in-Noise
unfolding limit_for
returns-in-Noise c = limit_at _ _ c.in-Noise.is cc

pub returns-in-First : goal.returns-in-First
unfolding limit_for
returns-in-First c = limit_at _ _ c.in-First.is cc

pub returns-in-Turn : goal.returns-in-Turn
unfolding limit_for
returns-in-Turn c = limit_at _ _ c.in-Turn.is cc

pub returns-in-Factor : goal.returns-in-Factor
unfolding limit_for
returns-in-Factor c = limit_at _ _ c.in-Factor.is cc

pub returns-in-Weight : goal.returns-in-Weight
unfolding limit_for
returns-in-Weight c = limit_at _ _ c.in-Weight.is cc
