use Rattle.message.proofs.Builds.{finished}
use Rattle.message.proofs.response.Response.finish.Goals as goal

pub returns : goal.returns
returns g c =
    rw c.from.ensures at (finished c.args.buffer.now c.args.size c.from.result c.requires
    c.args.identities c.args.self.now.consumer_id c.args.self.now.monitoring_number
    c.put_u32.new.buffer c.put_u32-2.new.buffer c.put_u32-3.new.buffer c.put_u32-4.new.buffer
    c.put_u32-5.new.buffer c.put_u32-6.new.buffer c.signature-signature.result
    c.put_u32.ensures c.put_u32-2.ensures c.put_u32-3.ensures c.put_u32-4.ensures c.put_u32-5.ensures
    c.signature-signature.ensures c.put_u32-6.ensures)
