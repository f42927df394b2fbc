use Rattle.std.proofs.Common.{◌-◌, Err, sym, ap, ◌∙◌}
use Rattle.std.proofs.lemmas.Result.{err_from_is_err_and}
use Rattle.settings.specs.declared.faults.Field.TheVariants as field
use Rattle.settings.specs.Layout.{version_at, gates_at, own_at, life_at, most_at, window_at}
use Rattle.settings.specs.Reading.{header_read}
use Rattle.settings.proofs.Steps.{after-ok, after-err, field_checked}
use Rattle.settings.proofs.reader.Reader.header.Goals as goal

pub returns-in_err-life : goal.returns-in_err-life
unfolding header_read
returns-in_err-life c =
    let version = field_checked c.args.self.bytes.now field.Version version_at 1 1 1 c.new.ensures.start c.new.ensures.end c.new.ensures.exhausted c.byte-version.ensures c.in_ok-_version.ensures in
    let gates = field_checked c.args.self.bytes.now field.Gates gates_at 1 1 32 c.new-2.ensures.start c.new-2.ensures.end c.new-2.ensures.exhausted c.byte.ensures c.in_ok-gates.ensures in
    let own = field_checked c.args.self.bytes.now field.Own own_at 1 0 (c.in_ok-gates.gates - 1) c.new-3.ensures.start c.new-3.ensures.end c.new-3.ensures.exhausted c.byte-2.ensures c.in_ok-own.ensures in
    let failed = field_checked c.args.self.bytes.now field.Life life_at 2 1 3600 c.new-4.ensures.start c.new-4.ensures.end c.new-4.ensures.exhausted c.short.ensures c.in_err-life.ensures in
    let exit = err_from_is_err_and c.from_residual-in_err-life.result c.from_residual-in_err-life.ensures.1 in
    exit.1 ∙ ap Err exit.2 ∙ sym (after-ok _ version ∙ after-ok _ gates ∙ after-ok _ own ∙ after-err _ failed)

pub returns-in_err-most : goal.returns-in_err-most
unfolding header_read
returns-in_err-most c =
    let version = field_checked c.args.self.bytes.now field.Version version_at 1 1 1 c.new.ensures.start c.new.ensures.end c.new.ensures.exhausted c.byte-version.ensures c.in_ok-_version.ensures in
    let gates = field_checked c.args.self.bytes.now field.Gates gates_at 1 1 32 c.new-2.ensures.start c.new-2.ensures.end c.new-2.ensures.exhausted c.byte.ensures c.in_ok-gates.ensures in
    let own = field_checked c.args.self.bytes.now field.Own own_at 1 0 (c.in_ok-gates.gates - 1) c.new-3.ensures.start c.new-3.ensures.end c.new-3.ensures.exhausted c.byte-2.ensures c.in_ok-own.ensures in
    let life = field_checked c.args.self.bytes.now field.Life life_at 2 1 3600 c.new-4.ensures.start c.new-4.ensures.end c.new-4.ensures.exhausted c.short.ensures c.in_ok-life.ensures in
    let failed = field_checked c.args.self.bytes.now field.Most most_at 4 17 4294967295 c.new-5.ensures.start c.new-5.ensures.end c.new-5.ensures.exhausted c.long.ensures c.in_err-most.ensures in
    let exit = err_from_is_err_and c.from_residual-in_err-most.result c.from_residual-in_err-most.ensures.1 in
    exit.1 ∙ ap Err exit.2 ∙ sym (after-ok _ version ∙ after-ok _ gates ∙ after-ok _ own ∙ after-ok _ life ∙ after-err _ failed)

pub returns-in_err-_window : goal.returns-in_err-_window
unfolding header_read
returns-in_err-_window c =
    let version = field_checked c.args.self.bytes.now field.Version version_at 1 1 1 c.new.ensures.start c.new.ensures.end c.new.ensures.exhausted c.byte-version.ensures c.in_ok-_version.ensures in
    let gates = field_checked c.args.self.bytes.now field.Gates gates_at 1 1 32 c.new-2.ensures.start c.new-2.ensures.end c.new-2.ensures.exhausted c.byte.ensures c.in_ok-gates.ensures in
    let own = field_checked c.args.self.bytes.now field.Own own_at 1 0 (c.in_ok-gates.gates - 1) c.new-3.ensures.start c.new-3.ensures.end c.new-3.ensures.exhausted c.byte-2.ensures c.in_ok-own.ensures in
    let life = field_checked c.args.self.bytes.now field.Life life_at 2 1 3600 c.new-4.ensures.start c.new-4.ensures.end c.new-4.ensures.exhausted c.short.ensures c.in_ok-life.ensures in
    let most = field_checked c.args.self.bytes.now field.Most most_at 4 17 4294967295 c.new-5.ensures.start c.new-5.ensures.end c.new-5.ensures.exhausted c.long.ensures c.in_ok-most.ensures in
    let failed = field_checked c.args.self.bytes.now field.Window window_at 2 2048 2048 c.new-6.ensures.start c.new-6.ensures.end c.new-6.ensures.exhausted c.short-window.ensures c.in_err-_window.ensures in
    let exit = err_from_is_err_and c.from_residual-in_err-_window.result c.from_residual-in_err-_window.ensures.1 in
    exit.1 ∙ ap Err exit.2 ∙ sym (after-ok _ version ∙ after-ok _ gates ∙ after-ok _ own ∙ after-ok _ life ∙ after-ok _ most ∙ after-err _ failed)

pub returns : goal.returns
unfolding header_read
returns c =
    let version = field_checked c.args.self.bytes.now field.Version version_at 1 1 1 c.new.ensures.start c.new.ensures.end c.new.ensures.exhausted c.byte-version.ensures c.in_ok-_version.ensures in
    let gates = field_checked c.args.self.bytes.now field.Gates gates_at 1 1 32 c.new-2.ensures.start c.new-2.ensures.end c.new-2.ensures.exhausted c.byte.ensures c.in_ok-gates.ensures in
    let own = field_checked c.args.self.bytes.now field.Own own_at 1 0 (c.in_ok-gates.gates - 1) c.new-3.ensures.start c.new-3.ensures.end c.new-3.ensures.exhausted c.byte-2.ensures c.in_ok-own.ensures in
    let life = field_checked c.args.self.bytes.now field.Life life_at 2 1 3600 c.new-4.ensures.start c.new-4.ensures.end c.new-4.ensures.exhausted c.short.ensures c.in_ok-life.ensures in
    let most = field_checked c.args.self.bytes.now field.Most most_at 4 17 4294967295 c.new-5.ensures.start c.new-5.ensures.end c.new-5.ensures.exhausted c.long.ensures c.in_ok-most.ensures in
    let window = field_checked c.args.self.bytes.now field.Window window_at 2 2048 2048 c.new-6.ensures.start c.new-6.ensures.end c.new-6.ensures.exhausted c.short-window.ensures c.in_ok-_window.ensures in
    sym (after-ok _ version ∙ after-ok _ gates ∙ after-ok _ own ∙ after-ok _ life ∙ after-ok _ most ∙ after-ok _ window)
