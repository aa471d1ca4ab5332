use Rattle.pg_order.proofs.lemmas.Examples as Examples
use Rattle.pg_order.proofs.laws.worked_orders.Goals as goal

pub returns : goal.returns
returns c = Examples.worked_orders
