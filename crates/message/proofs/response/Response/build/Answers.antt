use Rattle.std.proofs.Common.{sym, ◌∙◌}
use Rattle.message.proofs.Builds.{build_ok, build_done}
use Rattle.message.proofs.response.Response.build.Goals as goal

pub returns : goal.returns
returns g c =
    let f = g.K.RecordKind.format in
    let laws = g.met.K.RecordKind.lawful in
    let ok = sym c.encode.ensures.answer ∙ c.in_ok-encode.was in
    record {
      answer = build_ok f laws c.args.parameters.now c.args.self.now c.args.buffer.now c.in_ok-encode.field-0
          c.if-buffer-lt-LONGEST.false ok c.LENGTH-size.result (c.LENGTH-size.ensures ∙ g.met.K.RecordKind.length_is);
      written = build_done f laws c.args.parameters.now c.args.self.now c.args.buffer.now c.in_ok-encode.field-0
          c.if-buffer-lt-LONGEST.false ok c.LENGTH-size.result (c.LENGTH-size.ensures ∙ g.met.K.RecordKind.length_is)
          c.encode.new.out c.finish.new.buffer c.of.result c.encode.ensures.written c.of.ensures c.finish.ensures;
    }
