use Rattle.dgn_tool.proofs.words.end_given.Goals as goal

pub returns-in-Ok-clause-words : goal.returns-in-Ok-clause-words
returns-in-Ok-clause-words g c =
    let e = c.run.ensures in
    rw (c.in-Ok.is, ← c.deref.ensures.value) (record {
      concludes = record {
        outcome = e.outcome;
        counted = e.counted;
        usage = e.usage;
        improper = e.improper;
        read_fault = e.read_fault;
        write_fault = e.write_fault;
        complete = e.complete;
        complete_willing = e.complete_willing;
        bytes = e.bytes;
        found = e.found;
        never_fewer = e.never_fewer;
        stays_willing = e.stays_willing;
        as_asked = e.as_asked;
      };
      prefix = e.prefix;
      memory = e.memory;
    })
