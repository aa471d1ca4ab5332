use Rattle.std.proofs.Common.{◌∙◌, ◌++◌, [], ap, codes, length, map}
use Rattle.std.specs.String.{string_bytes}
use Rattle.pg_schema.specs.declared.parts.file.Import.{Import}
use Rattle.pg_set.specs.declared.descriptor.places.TheConstants.{FILE}
use Rattle.pg_set.specs.inner.writing.Drafts.{Drafted, IsDraftOf, put}
use Rattle.pg_set.specs.writing.Items.{children, counts, filled, options, text, texts}
use Rattle.pg_set.specs.writing.Messages.{enums_items, types_items}
use Rattle.pg_set.specs.writing.Places.{declared_in}
use Rattle.pg_set.specs.writing.Set.{file_options, public_places, services_items}
use Rattle.pg_set.proofs.lemmas.writing.FileLaws.{file_joined, more_put}
use Rattle.pg_set.proofs.writing.files.file_message.Goals as goal

pub returns : goal.returns
returns c =
    let all = declared_in c.args.writer.now in
    let f = c.args.file.now in
    let name = text 1 (string_bytes f.name) in
    let package_part = filled 2 (string_bytes f.package) in
    let imports = texts 3 (map (λ (i : Import). string_bytes i.path) f.imports.items) in
    let types = children 4 (types_items (length all.types) all f.types.items) in
    let enums = children 5 (enums_items all f.enums.items) in
    let services = children 6 (services_items all f.services.items) in
    let stated = options 8 (file_options f.options.items) in
    let places = counts 10 (public_places 0 f.imports.items) in
    let syntax_part = text 12 (codes "proto3") in
    let path = λ (i : Import). string_bytes i.path in
    let paths = ap (map string_bytes) c.deref-4.ensures.value ∙ (c.in_ok-paths.ensures ∙ ap (map path) c.deref-3.ensures.value) in
    let none : IsDraftOf FILE [] c.draft-draft.result = (ap (λ (d : Drafted). d.type) c.draft-draft.ensures, ap (λ (d : Drafted). d.items) c.draft-draft.ensures) in
    let one : IsDraftOf FILE name c.put_text.new.self = more_put FILE [] name 1 c.draft-draft.result c.put_text.new.self none (c.in_ok-put_text.ensures ∙ ap (λ bytes. put 1 (text 1 bytes) c.draft-draft.result) c.deref.ensures) in
    let two = more_put FILE _ package_part 2 c.put_text.new.self c.put_filled.new.self one (c.in_ok-put_filled.ensures ∙ ap (λ bytes. put 2 (filled 2 bytes) c.put_text.new.self) c.deref-2.ensures) in
    let three = more_put FILE _ imports 3 c.put_filled.new.self c.put_texts.new.self two (c.in_ok-put_texts.ensures ∙ ap (λ list. put 3 (texts 3 list) c.put_filled.new.self) paths) in
    let four = more_put FILE _ (types ++ enums ++ services) 6 c.put_texts.new.self c.put_declared.new.to three c.in_ok-put_declared.ensures in
    let five = more_put FILE _ stated 8 c.put_declared.new.to c.put_options.new.self four (c.in_ok-put_options.ensures ∙ ap (λ items. put 8 (options 8 items) c.put_declared.new.to) (c.in_ok-options.ensures.1 ∙ ap file_options c.deref-5.ensures.value)) in
    let six = more_put FILE _ places 10 c.put_options.new.self c.put_places.new.to five (c.in_ok-put_places.ensures ∙ ap (λ list. put 10 (counts 10 (public_places 0 list)) c.put_options.new.self) c.deref-6.ensures.value) in
    let seven = more_put FILE _ syntax_part 12 c.put_places.new.to c.put_text-2.new.self six c.in_ok-put_text-2.ensures in
    (seven.0, seven.1 ∙ file_joined name package_part imports types enums services stated places syntax_part)
