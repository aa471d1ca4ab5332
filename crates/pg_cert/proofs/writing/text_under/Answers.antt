use Rattle.std.proofs.Common.{◌≡◌}
use Rattle.std.specs.Option.{option_copied}
use Rattle.std.specs.String.{string_bytes}
use Rattle.pg_cert.specs.Text.{names_of, text_of}
use Rattle.pg_cert.proofs.Spelling.{grown}
use Rattle.pg_cert.proofs.writing.text_under.Goals as goal

pub returns-clause-spelled : goal.returns-clause-spelled
returns-clause-spelled c =
    grown c.args.heading (names_of c.args.old.now) (names_of c.args.new.now) c.args.certificate.now (string_bytes c.in_ok-text.text) (string_bytes c.push_pair.new.text) (string_bytes c.push_str.new.self) (string_bytes c.push_lines.new.text) (string_bytes c.push_last.new.text)
    c.root.result c.bounds.result.now (option_copied c.witness.result) c.root.ensures.root c.bounds.ensures c.witness.ensures.witness
    c.in_ok-text.ensures c.in_ok-push_pair.ensures c.in_ok-push_str.ensures.bytes c.in_ok-push_lines.ensures c.in_ok-push_last.ensures

pub returns-clause-certifies : goal.returns-clause-certifies
returns-clause-certifies c =
    let spelled : string_bytes c.push_last.new.text ≡ text_of c.args.heading (names_of c.args.old.now) (names_of c.args.new.now) c.args.certificate.now =
    grown c.args.heading (names_of c.args.old.now) (names_of c.args.new.now) c.args.certificate.now (string_bytes c.in_ok-text.text) (string_bytes c.push_pair.new.text) (string_bytes c.push_str.new.self) (string_bytes c.push_lines.new.text) (string_bytes c.push_last.new.text)
    c.root.result c.bounds.result.now (option_copied c.witness.result) c.root.ensures.root c.bounds.ensures c.witness.ensures.witness
    c.in_ok-text.ensures c.in_ok-push_pair.ensures c.in_ok-push_str.ensures.bytes c.in_ok-push_lines.ensures c.in_ok-push_last.ensures in
    record {
      has_texts = record { of_schemas = c.requires.claim; bounds = c.root.ensures.checked; witness = c.root.ensures.witnessed; bytes = c.witness.ensures.bytes };
      heading = c.args.heading;
      viewed = c.requires.viewed;
      spelled = spelled;
    }
