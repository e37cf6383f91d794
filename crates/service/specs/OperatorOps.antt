-- What operators have a node do.
use Rattle.std.specs.declared.alloc.Global.{Global}
use Rattle.maildrop.specs.declared.op.Op.{Op}
use Rattle.maildrop.specs.declared.op.Op.TheVariants as op
use Rattle.service.specs.declared.served_node.OperatorOp.{OperatorOp}
use Rattle.service.specs.declared.served_node.OperatorOp.TheVariants as operator

abbrev pub op_of : OperatorOp → Op Global
op_of (operator.Mail text key) = op.Mail text key
op_of operator.Break = op.Break
