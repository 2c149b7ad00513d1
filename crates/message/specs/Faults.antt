-- The number, the layer and the octet place of a fault.
use Rattle.std.specs.Prelude.{ℕ}
use Rattle.message.specs.declared.fault.MessageFault.{MessageFault}
use Rattle.message.specs.declared.fault.MessageFault.TheVariants.{Length, Signature, Identity, Consumer, Record}
use Rattle.record.specs.declared.fault.Layer.{Layer}

abbrev pub message_number : MessageFault → ℕ
message_number Length = 21
message_number (Signature _) = 21
message_number (Identity _) = 22
message_number (Consumer _) = 23
message_number (Record _) = 25

abbrev pub message_layer : MessageFault → Layer
message_layer Length = Layer.Message
message_layer (Signature _) = Layer.Message
message_layer (Identity _) = Layer.Message
message_layer (Consumer _) = Layer.Message
message_layer (Record _) = Layer.Record

abbrev pub message_place : MessageFault → ℕ
message_place Length = 0
message_place (Signature place) = place
message_place (Identity place) = place
message_place (Consumer place) = place
message_place (Record fault) = fault.place
