-- What a step answers, by the heads of what is sent, or with its messages whole.
use Rattle.message.specs.declared.head.Head.{Head}
use Rattle.message.specs.declared.value.Message.{Message}
use Rattle.controller.specs.declared.step.Said.{Said}

abbrev pub Answer : Type 0
Answer = Said Head

abbrev pub Told : Type 0
Told = Said Message
