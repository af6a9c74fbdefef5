use Rattle.lw_reass.proofs.Orders.{any_order}
use Rattle.lw_reass.proofs.law.fragments_in_any_order_give_the_datagram.Goals as goal

pub returns : goal.returns
returns c = any_order
