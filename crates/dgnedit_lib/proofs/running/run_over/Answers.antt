use Rattle.std.proofs.Common.{map, string_bytes, length, Some, None, true, refl, ap, ◌∙◌, subst}
use Rattle.dgn_desk.specs.Content.{all_said}
use Rattle.dgn_tool.specs.Status.{number_of}
use Rattle.dgn_tool.specs.Request.{request_of}
use Rattle.dgn_tool.specs.Outcome.{HasFiles}
use Rattle.dgnedit_lib.proofs.HandedOut.{ends, handed_out, put_none, stops}
use Rattle.dgnedit_lib.specs.Handing.{put_in, text_ended}
use Rattle.dgnedit_lib.proofs.running.run_over.Goals as goal

pub returns-in-Some-clause-outcome : goal.returns-in-Some-clause-outcome
returns-in-Some-clause-outcome c = λ read memory.
    let status_is = ap (λ e. e.status) c.with_text-ended.ensures in
    let ending = ends c.run-status.result (λ e. read (status_is ∙ e)) (λ e. memory (status_is ∙ e)) c.run-status.ensures.write_fault in
    handed_out (map string_bytes c.args.words.now) _ c.run-status.result c.new-desk.result.content c.run-status.new.desk.content (Some c.in-Some.bytes.now)
    _ _ _ _ _ (ap (λ d. d.content) c.new-desk.ensures) (c.run-status.ensures.outcome ending) c.in-Some.ensures
    (ap (λ e. record { text_length = e.text_length; file_length = c.put_in-in-Some.result; status = e.status; file_written = true }) c.with_text-ended.ensures
    ∙ ap (λ n. record { text_length = n; file_length = c.put_in-in-Some.result; status = number_of c.run-status.result; file_written = true })
    (c.put_in.ensures.count ∙ ap length c.said.ensures)
    ∙ ap (λ n. record {
      text_length = length (all_said c.run-status.new.desk.content);
      file_length = n;
      status = number_of c.run-status.result;
      file_written
          = true;
    })
    c.put_in-in-Some.ensures.count)
    (c.put_in.ensures.put ∙ ap (λ t. put_in t c.args.text.now) c.said.ensures) c.put_in-in-Some.ensures.put

pub returns-clause-outcome : goal.returns-clause-outcome
returns-clause-outcome c = λ read memory.
    let status_is = ap (λ e. e.status) c.with_text-ended.ensures in
    let ending = ends c.run-status.result (λ e. read (status_is ∙ e)) (λ e. memory (status_is ∙ e)) c.run-status.ensures.write_fault in
    handed_out (map string_bytes c.args.words.now) _ c.run-status.result c.new-desk.result.content c.run-status.new.desk.content None
    _ _ _ _ _ (ap (λ d. d.content) c.new-desk.ensures) (c.run-status.ensures.outcome ending) c.in-None.ensures
    (c.with_text-ended.ensures ∙ ap (text_ended c.run-status.result) (c.put_in.ensures.count ∙ ap length c.said.ensures))
    (c.put_in.ensures.put ∙ ap (λ t. put_in t c.args.text.now) c.said.ensures) (put_none c.args.file.now)

pub returns-in-Some-clause-absent : goal.returns-in-Some-clause-absent
returns-in-Some-clause-absent c = λ none.
    stops c.run-status.result _ (ap (λ e. e.status) c.with_text-ended.ensures) c.run-status.ensures.write_fault
    (λ ending. none (subst (λ d. HasFiles (request_of (map string_bytes c.args.words.now)) d.content.files) c.new-desk.ensures
    (c.run-status.ensures.found ending refl)))

pub returns-clause-absent : goal.returns-clause-absent
returns-clause-absent c = λ none.
    stops c.run-status.result _ (ap (λ e. e.status) c.with_text-ended.ensures) c.run-status.ensures.write_fault
    (λ ending. none (subst (λ d. HasFiles (request_of (map string_bytes c.args.words.now)) d.content.files) c.new-desk.ensures
    (c.run-status.ensures.found ending refl)))
