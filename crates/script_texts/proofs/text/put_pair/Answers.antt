use Rattle.script_texts.proofs.TextLaws.{pair_whole}
use Rattle.script_texts.proofs.text.put_pair.Goals as goal

pub returns : goal.returns
returns c =
    pair_whole c.args.two.now c.args.out.now.items c.put_line.new.out.items c.put_side.new.out.items c.put_stack.new.out.items c.put_side-2.new.out.items c.put_stack-2.new.out.items c.put_wire.new.out.items
    c.in_ok-put_line.ensures c.in_ok-put_side.ensures c.in_ok-put_stack.ensures c.in_ok-put_side-2.ensures c.in_ok-put_stack-2.ensures c.in_ok-put_wire.ensures
