-- What the command `preview` asks: the library's preview on the lengths of the arguments. Document 02, wish 4, decides the previews.
-- Assumes nothing: these are definitions.
use Rattle.std.specs.Prelude.{ℕ}
use Rattle.outcomes.specs.Outcome.{Outcome}
use Rattle.lengths.specs.Previews.{encrypt_preview, decrypt_preview, prepare_preview, encrypt_prepared_preview}
use Rattle.command_previews.specs.declared.previews.Route.{Route}
use Rattle.command_previews.specs.declared.previews.Route.TheVariants.{Encrypt, Decrypt, Prepare, EncryptPrepared}

-- the preview that a route names; a preparation has no input
abbrev pub previewed : Route → (order key input tape output : ℕ) → Outcome
previewed Encrypt d k x t o = encrypt_preview d k x t o
previewed Decrypt d k x t o = decrypt_preview d k x t o
previewed Prepare d k x t o = prepare_preview d k t o
previewed EncryptPrepared d k x t o = encrypt_prepared_preview d k x t o
