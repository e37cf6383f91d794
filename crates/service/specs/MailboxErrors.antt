-- Why nothing of a mailbox file is delivered.
use Rattle.mboxrd.specs.declared.error.MboxError.{MboxError}
use Rattle.mboxrd.specs.declared.error.MboxError.TheVariants as mailbox
use Rattle.service.specs.declared.delivery.DeliveryError.{DeliveryError}
use Rattle.service.specs.declared.delivery.DeliveryError.TheVariants.{NoMailbox, Memory}

abbrev pub error_of : MboxError → DeliveryError
error_of mailbox.NoFromLine = NoMailbox
error_of mailbox.Memory = Memory
