use Rattle.std.proofs.Common.{ap, length}
use Rattle.connection_reader.proofs.Stopping.{positive, still_partial}
use Rattle.connection_reader.proofs.inbox.read_on.Goals as goal

pub returns-else-rest-eq0-clause-reads : goal.returns-else-rest-eq0-clause-reads
returns-else-rest-eq0-clause-reads g c =
    let fills = c.in-End.ensures.fills in
    record {
      more = fills.0;
      gave = fills.1;
      behind = fills.2.0;
      stops = (
        still_partial c.bytes.result.now c.args.buffer.now c.fill.new.self fills.0 c.awaited-wanted.result c.bytes.ensures.bytes c.awaited-wanted.ensures.exact c.requires.partial fills.2.0 fills.2.1,
        positive (length c.bytes-rest.result.now) c.if-rest-eq0.false,
        ap length c.bytes-rest.ensures.bytes,
        fills.2.2,
      );
    }

pub returns-in-ReadFault-clause-reads : goal.returns-in-ReadFault-clause-reads
returns-in-ReadFault-clause-reads g c =
    let fills = c.in-ReadFault.ensures.fills in
    record {
      more = fills.0;
      gave = fills.1;
      behind = fills.2.0;
      stops = still_partial c.bytes.result.now c.args.buffer.now c.fill.new.self fills.0 c.awaited-wanted.result c.bytes.ensures.bytes c.awaited-wanted.ensures.exact c.requires.partial fills.2.0 fills.2.1;
    }
