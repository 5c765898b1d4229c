-- What the commands call: the outcome of the library's routine on the bytes of the arguments. Assumes nothing: these are definitions.
-- Documents 01 and 02 decide the routines.
use Rattle.std.specs.Prelude.{List, ℕ}
use Rattle.outcomes.specs.Outcome.{Outcome, refused}
use Rattle.shares.specs.Calls.{split_outcome, join_outcome}
use Rattle.refresh.specs.Calls.{refresh_outcome}
use Rattle.masking.specs.Calls.{product_outcome}
use Rattle.sbox.specs.Calls.{box_outcome}
use Rattle.aes.specs.Calls.{encrypt_outcome, decrypt_outcome, prepare_outcome, encrypt_prepared_outcome}
use Rattle.command_line.specs.declared.commands.Command.{Command}
use Rattle.command_line.specs.declared.commands.Command.TheVariants.{Encrypt, Decrypt, Prepare, EncryptPrepared, Split, Join, Refresh, Product}
use Rattle.command_line.specs.declared.commands.Command.TheVariants.{Sbox, Read, Sheet, Places, ReadCube, CubeSheet, CubePlaces}
use Rattle.command_line.specs.declared.commands.Command.TheVariants.{Tape, Preview, Help}

-- a command that calls no routine of this form never gets there; it stands as a refused order
abbrev pub called : Command → (order : ℕ) (first second tape output : List ℕ) → Outcome
called Encrypt d x y t o = encrypt_outcome d x y t o
called Decrypt d x y t o = decrypt_outcome d x y t o
called Prepare d x y t o = prepare_outcome d x t o
called EncryptPrepared d x y t o = encrypt_prepared_outcome d x y t o
called Split d x y t o = split_outcome d x t o
called Join d x y t o = join_outcome d x o
called Refresh d x y t o = refresh_outcome d x t o
called Product d x y t o = product_outcome d x y t o
called Sbox d x y t o = box_outcome d x t o
called Read d x y t o = refused 1 o
called Sheet d x y t o = refused 1 o
called Places d x y t o = refused 1 o
called ReadCube d x y t o = refused 1 o
called CubeSheet d x y t o = refused 1 o
called CubePlaces d x y t o = refused 1 o
called Tape d x y t o = refused 1 o
called Preview d x y t o = refused 1 o
called Help d x y t o = refused 1 o
