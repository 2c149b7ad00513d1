use Rattle.std.proofs.Common.{refl}
use Rattle.disturber.specs.Disturbing.{kept_of}
use Rattle.disturber.proofs.Layers.{placed_over}
use Rattle.disturber.proofs.DisturberCarrier.place.Goals as goal

pub returns : goal.returns
returns g c =
    let d = c.args.self.now in
    record {
      carries = placed_over (kept_of d) (g.C.Carrier.lanes d.below) (g.C.Carrier.lanes c.place.new.self) c.args.lane
          c.args.message.now c.place.result c.place.ensures;
      below = c.place.ensures;
      script = refl {a = d.script};
    }
