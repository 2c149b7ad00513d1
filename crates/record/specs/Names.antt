-- What a layer is called.
use Rattle.std.specs.Prelude.{ℕ, List, codes}
use Rattle.record.specs.declared.fault.Layer.{Layer}
use Rattle.record.specs.declared.fault.Layer.TheVariants.{Message, Cycle, Record}

abbrev pub layer_text : Layer → List ℕ
layer_text Message = codes "message"
layer_text Cycle = codes "cycle"
layer_text Record = codes "record"
